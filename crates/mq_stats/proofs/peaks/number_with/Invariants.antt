use Rattle.std.proofs.Common.{◌+◌, ◌-◌, ◌≤◌, max}
use Rattle.mq_stats.proofs.Passing.{up_to}
use Rattle.mq_stats.proofs.peaks.number_with.Given as goal

-- so many are there at least, or the number is that which was given
abbrev pub invariant-loop-number : goal.invariant-loop-number
invariant-loop-number l = record {
  some : 1 ≤ l.number;
  within : l.number ≤ max l.fn.number (l.before + 1);
  least : l.fn.number ≤ l.number;
  most : l.number ≤ max l.fn.number (l.before - up_to l.time l.departs + 1);
}

-- how many may be more
abbrev pub decreases-loop-number : goal.decreases-loop-number
decreases-loop-number l = l.before + 1 - l.number
