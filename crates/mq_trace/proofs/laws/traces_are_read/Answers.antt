use Rattle.mq_trace.proofs.RowsRead.{rows_are_read}
use Rattle.mq_trace.proofs.laws.traces_are_read.Goals as goal

pub returns : goal.returns
returns c net text clean = rows_are_read net text clean
