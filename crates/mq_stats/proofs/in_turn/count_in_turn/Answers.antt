use Rattle.std.proofs.Common.{◌∙◌, ℕ, List, ap, map, subst, sym}
use Rattle.std.specs.Prelude.{IfOk}
use Rattle.mq_base.specs.Lists.{between}
use Rattle.mq_core.specs.OnceOut.{founds_of}
use Rattle.mq_core.specs.Results.{peak_of}
use Rattle.mq_core.specs.declared.model.Fate.{Fate}
use Rattle.mq_core.specs.declared.model.Fate.TheVariants.{Departs}
use Rattle.mq_core.specs.declared.model.Visits.{Visits}
use Rattle.mq_stats.specs.Blocks.{IsBlockOf}
use Rattle.mq_stats.specs.Numbers.{visits_of_columns}
use Rattle.mq_stats.proofs.InTurn.{fates-between}
use Rattle.mq_stats.proofs.in_turn.count_in_turn.Goals as goal

pub returns : goal.returns
returns c span =
    let fates = fates-between _ _ c.args.departs.now c.args.from c.args.to c.departures.ensures c.part-leave.ensures in
    let found = between c.args.from c.args.to (founds_of c.args.arrivals.now.time (map (λ time. Departs time) c.args.departs.now)) in
    let whole : (arrive departs : List ℕ) → List ℕ × List Fate = λ arrive departs. (between c.args.from c.args.to (founds_of arrive (map (λ time. Departs time) departs)), between c.args.from c.args.to (map (λ time. Departs time) departs)) in
    let peak = c.peak_in_turn-peak.ensures ∙ (λ i. peak_of c.args.kind.now (whole (c.as_slice.ensures i) (c.as_slice-2.ensures i)).0 (whole (c.as_slice.ensures i) (c.as_slice-2.ensures i)).1) in
    subst (λ (visits : Visits). IfOk c.count_departed.result (IsBlockOf c.args.rows.now c.args.kind.now visits span c.args.most))
    (λ i. visits_of_columns (c.part.ensures i) (c.part-2.ensures i) found (fates i)) (c.count_departed.ensures found span (peak ∙ ap (peak_of c.args.kind.now found) (sym fates)))
