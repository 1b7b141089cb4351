use Rattle.mq_counts.specs.Tails.{AreCountedOf}
use Rattle.mq_counts.proofs.tail_pieces.counted_of.Given as goal

-- the nodes so far
abbrev pub invariant-loop-node : goal.invariant-loop-node
invariant-loop-node l = AreCountedOf l.known.nodes.now l.node l.counted
