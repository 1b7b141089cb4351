use Rattle.std.proofs.Common.{◌≡◌, List, ℕ, subst}
use Rattle.mq_trace.specs.Trace.{Answers, records_fault, rows_in, text_records, trace_fault}
use Rattle.mq_trace.proofs.FaultRows as small_texts
use Rattle.mq_trace.proofs.RowsRead.{answer_is_read}
use Rattle.mq_trace.proofs.read.take_trace.Goals as goal

pub returns-in-None-clause-read : goal.returns-in-None-clause-read
returns-in-None-clause-read g c =
    -- the definitions are tried on small texts too
    let faults = small_texts.faults in
    let declared = small_texts.declared in
    let net = c.args.net.now in
    let fault : trace_fault net c.args.bytes.items ≡ records_fault net (text_records c.args.bytes.items) = subst (λ (text : List ℕ). trace_fault net text ≡ records_fault net (text_records text)) c.deref.ensures.value (c.in-None.ensures.none net) in
    let exact : Answers c.take_text.result (trace_fault net c.args.bytes.items) (rows_in net c.args.bytes.items) = rw fault c.take_text.ensures in
    answer_is_read c.take_text.result net c.args.bytes.items exact
