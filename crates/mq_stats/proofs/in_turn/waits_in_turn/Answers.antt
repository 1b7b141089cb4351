use Rattle.std.proofs.Common.{◌≤◌, ℕ, List, fold, max, subst}
use Rattle.std.specs.Prelude.{◌↔◌, IfOk, IfSome, IsSome}
use Rattle.mq_core.specs.Sequences.{sequence_waits}
use Rattle.mq_core.specs.declared.model.Fate.{Fate}
use Rattle.mq_stats.specs.Percentiles.{departed_waits}
use Rattle.mq_stats.specs.WaitCounts.{AreWaitCounts}
use Rattle.mq_stats.proofs.InTurn.{fates-between}
use Rattle.mq_stats.proofs.in_turn.waits_in_turn.Goals as goal

pub returns-clause-told : goal.returns-clause-told
returns-clause-told c =
    let fates = fates-between _ _ c.args.departs.now c.args.from c.args.to c.departures.ensures c.part-3.ensures in
    subst (λ (p : List ℕ × List ℕ × List Fate). IfOk c.counts_of_columns.result (λ counts. IsSome counts ↔ (fold max 0 (sequence_waits c.args.rows.now c.args.kind.now p.0 p.1 p.2) ≤ c.args.most)))
    (λ i. (c.part.ensures i, c.part-2.ensures i, fates i)) c.counts_of_columns.ensures.told

pub returns-clause-counts : goal.returns-clause-counts
returns-clause-counts c =
    let fates = fates-between _ _ c.args.departs.now c.args.from c.args.to c.departures.ensures c.part-3.ensures in
    subst (λ (p : List ℕ × List ℕ × List Fate). IfOk c.counts_of_columns.result (λ counts. IfSome counts (AreWaitCounts (departed_waits c.args.rows.now c.args.kind.now p.0 p.1 p.2))))
    (λ i. (c.part.ensures i, c.part-2.ensures i, fates i)) c.counts_of_columns.ensures.counts
