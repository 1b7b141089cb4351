use Rattle.std.proofs.Common.{◌≡◌, ◌⊎◌, ℕ, List, refl, subst, sym, ⊎_elim}
use Rattle.std.specs.Prelude.{sum}
use Rattle.mq_core.specs.Fates.{service_time}
use Rattle.mq_core.specs.Sequences.{sequence_services}
use Rattle.mq_core.specs.declared.model.Fate.{Fate}
use Rattle.mq_core.specs.declared.model.Kind.{Kind}
use Rattle.mq_core.specs.declared.model.Kind.TheVariants.{Fork, Join, Source, Split}
use Rattle.mq_core.specs.declared.model.Route.{Route}
use Rattle.mq_core.specs.declared.model.Rows.{Rows}
use Rattle.mq_stats.specs.Waits.{services_in}
use Rattle.mq_stats.specs.declared.waits.Waiting.{Waiting}
use Rattle.mq_stats.proofs.Steps.{services-are_none}
use Rattle.mq_stats.proofs.waits.busy_of.Goals as goal

-- where the kind is one that serves no job
none : (rows : Rows) (kind : Kind) (jobs : List ℕ) (fates : List Fate) (is : Kind) → ((job : ℕ) → service_time rows is job ≡ 0) → kind ≡ is → 0 ≡ sum (sequence_services rows kind jobs fates)
none rows kind jobs fates is h e = subst (λ k. 0 ≡ sum (sequence_services rows k jobs fates)) (sym e) (sym (services-are_none rows is jobs fates h))

-- the kinds that serve no job
abbrev ServesNone : Kind → Type 0
ServesNone kind = (kind ≡ Source) ⊎ (((route : Route) × (kind ≡ Split route)) ⊎ (((outputs : ℕ) × (kind ≡ Fork outputs)) ⊎ (kind ≡ Join)))

nothing : (waiting : Waiting) → ServesNone waiting.kind.now → 0 ≡ sum (services_in waiting)
nothing waiting =
    let at = none waiting.rows.now waiting.kind.now waiting.job.now waiting.fate.now in
    ⊎_elim (λ e. at _ (λ _. refl) e) (⊎_elim (λ e. at _ (λ _. refl) e.1) (⊎_elim (λ e. at _ (λ _. refl) e.1) (λ e. at _ (λ _. refl) e)))

pub returns-in-Source-clause-busy : goal.returns-in-Source-clause-busy
returns-in-Source-clause-busy c = nothing c.args.waiting.now c.in-Source.is

pub returns-in-Source-2-clause-busy : goal.returns-in-Source-2-clause-busy
returns-in-Source-2-clause-busy c = nothing c.args.waiting.now c.in-Source.is

pub returns-in-Source-3-clause-busy : goal.returns-in-Source-3-clause-busy
returns-in-Source-3-clause-busy c = nothing c.args.waiting.now c.in-Source.is

pub returns-in-Source-4-clause-busy : goal.returns-in-Source-4-clause-busy
returns-in-Source-4-clause-busy c = nothing c.args.waiting.now c.in-Source.is
