use Rattle.mq_counts.proofs.CountedTails.{AreWaitCountsBefore}
use Rattle.mq_counts.proofs.tail_pieces.looked_at.Given as goal

-- the counts of the waits before the next piece
abbrev pub invariant-loop-b : goal.invariant-loop-b
invariant-loop-b l = AreWaitCountsBefore l.node l.b l.sum
