use Rattle.mq_maxplus.proofs.Vectors.{Covering}
use Rattle.mq_maxplus.proofs.vector.Vector.cover.Given as goal

abbrev pub invariant-loop-row : goal.invariant-loop-row
invariant-loop-row l = Covering l.by l.other l.fn.self l.self l.row
