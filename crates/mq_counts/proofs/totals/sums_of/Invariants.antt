use Rattle.mq_crew.specs.Crew.{AreAll}
use Rattle.mq_counts.specs.Totals.{IsSumIn}
use Rattle.mq_counts.proofs.totals.sums_of.Given as goal

-- the nodes so far
abbrev pub invariant-loop-node : goal.invariant-loop-node
invariant-loop-node l = AreAll (IsSumIn l.nodes) l.node l.sums
