use Rattle.std.proofs.Common.{◌+◌}
use Rattle.mq_kinds.specs.Branches.{departs_of}
use Rattle.mq_kinds.proofs.Branching.{AreAdvancing}
use Rattle.mq_kinds.proofs.branches.passed.Given as goal

-- the branches from this index on have a server left
abbrev pub invariant-loop-at : goal.invariant-loop-at
invariant-loop-at l = AreAdvancing l.arrive (departs_of l.arrive l.fn.passage) (l.server + 1) l.at l.passage

abbrev pub decreases-loop-at : goal.decreases-loop-at
decreases-loop-at l = l.at
