use Rattle.mq_maxplus.proofs.Columns.{Uniting}
use Rattle.mq_maxplus.proofs.matrix.Matrix.unit.Given as goal

abbrev pub invariant-loop-index : goal.invariant-loop-index
invariant-loop-index l = Uniting l.size l.columns l.index
