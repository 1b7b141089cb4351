use Rattle.std.proofs.Common.{◌≡◌, take}
use Rattle.mq_forkjoin.specs.Servers.{begins_of}
use Rattle.mq_redo.proofs.forkjoins.branch_begins.Given as goal

abbrev pub invariant-loop-at : goal.invariant-loop-at
invariant-loop-at l = l.begins.items ≡ begins_of (take l.at l.branches)
