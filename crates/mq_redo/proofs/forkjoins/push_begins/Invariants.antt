use Rattle.std.proofs.Common.{◌≡◌, ◌++◌}
use Rattle.mq_redo.specs.Branches.{begins_with}
use Rattle.mq_redo.proofs.forkjoins.push_begins.Given as goal

abbrev pub invariant-loop-server : goal.invariant-loop-server
invariant-loop-server l = l.begins.items ≡ l.fn.begins.items ++ begins_with l.server
