use Rattle.mq_trace.specs.Trace.{Answers, rows_in, trace_fault}
use Rattle.mq_trace.proofs.FaultRows as small_texts
use Rattle.mq_trace.proofs.RowsRead.{answer_is_read}
use Rattle.mq_trace.proofs.read.read_trace.Goals as goal

pub returns-in-None-clause-read : goal.returns-in-None-clause-read
returns-in-None-clause-read g c =
    -- the definitions are tried on small texts too
    let faults = small_texts.faults in
    let declared = small_texts.declared in
    let net = c.args.net.now in
    let exact : Answers c.read_text.result (trace_fault net c.args.bytes.now) (rows_in net c.args.bytes.now) = rw (c.in-None.ensures.none net) c.read_text.ensures in
    answer_is_read c.read_text.result net c.args.bytes.now exact
