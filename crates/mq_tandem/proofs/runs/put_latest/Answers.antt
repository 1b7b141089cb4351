use Rattle.std.proofs.Common.{arith}
use Rattle.mq_tandem.proofs.Putting.{putting-begins, putting-next}
use Rattle.mq_tandem.proofs.runs.put_latest.Goals as goal

pub loop-index-init : goal.loop-index-init
loop-index-init c = putting-begins c.args.time c.args.rows.now c.args.row

pub loop-index-preserved : goal.loop-index-preserved
loop-index-preserved c = putting-next _ _ _ _ _ _ _ _ (omega arith) (omega arith) c.get-earlier.ensures c.set.ensures c.loop-index.invariant
