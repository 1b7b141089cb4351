use Rattle.mq_crew.specs.Crew.{AreAll}
use Rattle.mq_counts.specs.Leaving.{IsExitAt}
use Rattle.mq_counts.proofs.leaving.exits_of.Given as goal

-- the outputs so far
abbrev pub invariant-loop-output : goal.invariant-loop-output
invariant-loop-output l = AreAll (IsExitAt l.node) l.output l.exits
