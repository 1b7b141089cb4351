use Rattle.mq_maxplus.proofs.Columns.{Acting}
use Rattle.mq_maxplus.proofs.matrix.Matrix.act.Given as goal

abbrev pub invariant-loop-index : goal.invariant-loop-index
invariant-loop-index l = Acting l.self l.on l.all l.index
