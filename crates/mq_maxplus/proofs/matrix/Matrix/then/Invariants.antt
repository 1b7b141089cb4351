use Rattle.mq_maxplus.proofs.Columns.{Taking}
use Rattle.mq_maxplus.proofs.matrix.Matrix.then.Given as goal

abbrev pub invariant-loop-index : goal.invariant-loop-index
invariant-loop-index l = Taking l.self l.next l.all l.index
