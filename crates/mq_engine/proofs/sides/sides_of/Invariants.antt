use Rattle.std.proofs.Common.{◌++◌, take}
use Rattle.std.specs.List.Sorted.{IsPermutation}
use Rattle.mq_engine.proofs.sides.sides_of.Given as goal

-- the nodes so far
abbrev pub invariant-loop-at : goal.invariant-loop-at
invariant-loop-at l = IsPermutation (l.sides.long.items ++ l.sides.others.items) (take l.at l.arriving.ready.now)
