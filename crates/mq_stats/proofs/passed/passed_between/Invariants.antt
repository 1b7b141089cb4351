use Rattle.std.proofs.Common.{◌-◌, ◌≤◌, length}
use Rattle.mq_stats.proofs.Passing.{up_to}
use Rattle.mq_stats.proofs.passed.passed_between.Given as goal

abbrev pub invariant-loop-least : goal.invariant-loop-least
invariant-loop-least l = record {
  least : l.least ≤ up_to l.time l.times;
  most : up_to l.time l.times ≤ l.most;
  within : l.most ≤ length l.times;
}

-- how many are left to decide
abbrev pub decreases-loop-least : goal.decreases-loop-least
decreases-loop-least l = l.most - l.least
