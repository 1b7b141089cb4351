-- What the visits to a delay found, block behind block.
use Rattle.std.proofs.Common.{◌≡◌, ℕ, ◌≤◌, List, [], ◌∷◌, map, sym, subst, ◌∙◌}
use Rattle.mq_base.specs.Lists.{between}
use Rattle.mq_core.specs.declared.model.Fate.TheVariants.{Departs}
use Rattle.mq_core.specs.declared.model.Plan.{Plan}
use Rattle.mq_core.specs.declared.model.Rows.{Rows}
use Rattle.mq_core.specs.declared.model.Stream.{Stream}
use Rattle.mq_exits.specs.Afters.{IsAfterAt}
use Rattle.mq_exits.specs.Keeping.{IsCounted, IsOvertaken, founds_by}
use Rattle.mq_exits.specs.declared.overtaking.Overtaken.{Overtaken}
use Rattle.mq_exits.specs.declared.working.After.{After}
use Rattle.mq_exits.specs.declared.working.After.TheVariants.{Seen}
use Rattle.mq_exits.proofs.Closings.{founds-length}
use Rattle.mq_scan.proofs.lemmas.Blocks.{behind-end, end_of}

-- all of them
pub founds-end : (arrivals : Stream) (overtaken : Overtaken) (k : ℕ) (done : List ℕ) → IsCounted arrivals overtaken → overtaken.blocks.blocks ≤ k → done ≡ between 0 (end_of overtaken.blocks k) (founds_by arrivals overtaken.departs) → done ≡ founds_by arrivals overtaken.departs
founds-end arrivals overtaken k done h l was =
    behind-end (founds_by arrivals overtaken.departs) overtaken.blocks k done l (h.blocks.0 ∙ sym (founds-length [] arrivals.time (map (λ time. Departs time) overtaken.departs) h.ahead.comings.even)) was

-- what becomes of the arrivals at a delay
pub delays : (plan : Plan) (rows : Rows) (v : ℕ) (arrivals : Stream) (overtaken : Overtaken) (departs found : List ℕ) (leaving : Stream) → IsOvertaken plan rows v arrivals overtaken → departs ≡ overtaken.departs → leaving ≡ record { job = overtaken.job; time = overtaken.ahead.leaving } → found ≡ founds_by arrivals overtaken.departs →
    (after : After) → after ≡ Seen (map (λ time. Departs time) departs) found (leaving ∷ []) → IsAfterAt plan rows v arrivals after
delays plan rows v arrivals overtaken departs found leaving known d l f after e =
    subst (IsAfterAt plan rows v arrivals) (sym (e ∙ (λ k. Seen (map (λ time. Departs time) (d k)) found (l k ∷ [])))) (λ node there. (known.on_time node there, f))
