use Rattle.std.proofs.Common.{◌≡◌, take}
use Rattle.mq_redo.proofs.splits.first_outs.Given as goal

-- the outputs so far
abbrev pub invariant-loop-at : goal.invariant-loop-at
invariant-loop-at l = l.first.items ≡ take l.at l.outs
