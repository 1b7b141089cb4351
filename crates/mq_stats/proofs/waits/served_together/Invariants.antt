use Rattle.std.proofs.Common.{◌≡◌, ◌+◌, ◌*◌, ◌^◌, ◌≤◌, drop}
use Rattle.std.specs.Prelude.{fold, sum}
use Rattle.mq_core.specs.Sequences.{sequence_services}
use Rattle.mq_stats.proofs.waits.served_together.Given as goal

-- what is added so far, with what is left, is all
abbrev pub invariant-loop-at : goal.invariant-loop-at
invariant-loop-at l = record {
  busy : fold (λ a y. a + y) l.busy (sequence_services l.waiting.rows.now l.waiting.kind.now (drop l.at l.waiting.job.now) (drop l.at l.waiting.fate.now)) ≡ sum (sequence_services l.waiting.rows.now l.waiting.kind.now l.waiting.job.now l.waiting.fate.now);
  small : l.busy ≤ l.at * 2 ^ 64;
}
