use Rattle.mq_counts.proofs.NodeTotals.{AreBefore}
use Rattle.mq_counts.proofs.totals.sum_of.Given as goal

-- what is counted of the visits before the next piece
abbrev pub invariant-loop-b : goal.invariant-loop-b
invariant-loop-b l = AreBefore l.node l.b l.sum
