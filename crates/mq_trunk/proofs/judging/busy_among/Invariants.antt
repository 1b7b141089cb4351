use Rattle.std.proofs.Common.{◌-◌, ◌≤◌, length}
use Rattle.mq_core.specs.Recurrences.{busy_at}
use Rattle.mq_trunk.proofs.judging.busy_among.Given as goal

-- the number lies between the two limits
abbrev pub invariant-loop-low : goal.invariant-loop-low
invariant-loop-low l = record {
  least : l.low ≤ busy_at l.now l.latest;
  most : busy_at l.now l.latest ≤ l.high;
  within : l.high ≤ length l.latest;
}

abbrev pub decreases-loop-low : goal.decreases-loop-low
decreases-loop-low l = l.high - l.low
