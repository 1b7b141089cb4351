use Rattle.mq_tandem.proofs.Putting.{Putting}
use Rattle.mq_tandem.proofs.runs.put_latest.Given as goal

abbrev pub invariant-loop-index : goal.invariant-loop-index
invariant-loop-index l = Putting l.fn.time l.fn.rows l.row l.rows l.moved l.index
