use Rattle.std.proofs.Common.{◌*◌, ◌≤◌}
use Rattle.mq_kinds.proofs.split.jobs_by.Given as goal

abbrev pub invariant-loop-b : goal.invariant-loop-b
invariant-loop-b l = l.count ≤ l.b * 1048576
