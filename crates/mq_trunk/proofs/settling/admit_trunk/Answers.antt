use Rattle.std.proofs.Common.{◌≡◌, ℕ, List, [], sym, ap, ◌∙◌, subst}
use Rattle.mq_core.specs.Fates.{departure_times}
use Rattle.mq_core.specs.Recurrences.{trunk_fates}
use Rattle.mq_core.specs.declared.model.Fate.{Fate}
use Rattle.mq_core.specs.declared.model.Stream.{Stream}
use Rattle.mq_core.proofs.lemmas.Over.{trunk-over}
use Rattle.mq_trunk.specs.Kept.{IsKept}
use Rattle.mq_rounds.specs.Rounds.{departures_of, fates_by}
use Rattle.mq_rounds.proofs.lemmas.Fates.{fates-back}
use Rattle.mq_trunk.specs.Rounds.{admission, departure_at_once}
use Rattle.mq_trunk.proofs.Fates.{admission-is, departures-are}
use Rattle.mq_trunk.proofs.Keeping.{kept-none}
use Rattle.mq_trunk.proofs.settling.admit_trunk.Goals as goal

pub settle_windows-requires-clause-behind : goal.settle_windows-requires-clause-behind
settle_windows-requires-clause-behind g c = subst (λ (ls : List ℕ). IsKept c.args.servers ls []) (sym c.in_ok-latest.ensures) (kept-none c.args.servers)

pub returns-clause-admitted : goal.returns-clause-admitted
returns-clause-admitted g c =
    let servers : ℕ = c.args.servers in
    let arrivals : Stream = c.args.stream.now in
    let demands : List ℕ = c.args.demands.now in
    let fates : List Fate = trunk_fates servers [] arrivals.time demands in
    let found : c.in_ok-settled.settled.admitted ≡ admission servers arrivals.time demands =
    c.in_ok-settled.ensures.admitted ∙ (λ k. admission-is servers k arrivals.time demands) in
    let left : c.in_ok-settled.settled.departs ≡ departure_times fates =
    c.in_ok-settled.ensures.departs ∙ (ap (departures_of departure_at_once arrivals.time demands) c.in_ok-settled.ensures.admitted ∙ departures-are servers arrivals.time demands c.requires.load.each) in
    record {
      ordered = c.requires.stream;
      each = c.requires.load.each;
      admission = found;
      departures = left;
      fates = (λ k. fates_by (found k) (left k)) ∙ fates-back fates (trunk-over servers [] arrivals.time demands);
    }
