use Rattle.std.proofs.Common.{◌≤◌}
use Rattle.mq_stats.proofs.Passing.{up_to}
use Rattle.mq_stats.proofs.passed.passed_by.Given as goal

-- all before the index are passed
abbrev pub invariant-loop-index : goal.invariant-loop-index
invariant-loop-index l = l.index ≤ up_to l.time l.times
