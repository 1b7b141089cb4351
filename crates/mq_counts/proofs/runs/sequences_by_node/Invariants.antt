use Rattle.mq_counts.specs.Runs.{AreFirstSequences}
use Rattle.mq_counts.proofs.runs.sequences_by_node.Given as goal

-- the nodes so far
abbrev pub invariant-loop-node : goal.invariant-loop-node
invariant-loop-node l = AreFirstSequences l.plan l.rows l.node l.all
