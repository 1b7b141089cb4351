use Rattle.std.proofs.Common.{◌≡◌, length, map, take}
use Rattle.mq_kinds.proofs.forkjoin.branch_servers.Given as goal

abbrev pub invariant-loop-at : goal.invariant-loop-at
invariant-loop-at l = l.servers ≡ map length (take l.at l.branches)
