use Rattle.mq_crew.specs.Crew.{AreAll}
use Rattle.mq_counts.specs.Leaving.{IsExitIn}
use Rattle.mq_counts.proofs.leaving.NodeStreamsPieces.piece.Given as goal

-- the outputs so far
abbrev pub invariant-loop-output : goal.invariant-loop-output
invariant-loop-output l = AreAll (IsExitIn l.self l.b) l.output l.exits.items
