use Rattle.std.proofs.Common.{◌-◌, ◌≤◌, length}
use Rattle.mq_stats.proofs.Passing.{up_to}
use Rattle.mq_stats.proofs.passed.passed_far.Given as goal

abbrev pub invariant-loop-step : goal.invariant-loop-step
invariant-loop-step l = record {
  least : l.least ≤ up_to l.time l.times;
  step : 1 ≤ l.step;
}

-- those that aren't looked at
abbrev pub decreases-loop-step : goal.decreases-loop-step
decreases-loop-step l = length l.times - l.least
