use Rattle.mq_counts.proofs.Exits.{IsExitBefore}
use Rattle.mq_counts.proofs.leaving.exit_of.Given as goal

-- what leaves in the pieces before the next one
abbrev pub invariant-loop-b : goal.invariant-loop-b
invariant-loop-b l = IsExitBefore l.node l.output l.b l.sum
