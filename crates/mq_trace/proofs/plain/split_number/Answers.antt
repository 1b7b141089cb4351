use Rattle.std.proofs.Common.{arith, sym, take}
use Rattle.std.proofs.lemmas.List.{take-append-drop, take_rest}
use Rattle.mq_trace.proofs.PlainRows.{number_made}
use Rattle.mq_trace.proofs.plain.split_number.Goals as goal

pub returns : goal.returns
returns c =
    let text = c.args.text.now in
    let n = c.leading_digits-length.result.0 in
    let e = c.leading_digits-length.ensures in
    (take n text, rw (take_rest text n) (sym (take-append-drop n text)), number_made text n c.leading_digits-length.result.1 c.args.limit (omega arith) e.few e.within e.digits e.value c.if-value-limit.false)
