use Rattle.std.proofs.lemmas.List.{take_rest}
use Rattle.mq_trace.proofs.PlainFacts.{plain_field, quoted_field}
use Rattle.mq_trace.proofs.plain.split_field.Goals as goal

pub returns-in-Some : goal.returns-in-Some
returns-in-Some c =
    let e = c.split_at.ensures in
    rw (take_rest c.split_at.result.1.now 1)
    (quoted_field c.args.text.now c.in-Some.quoted.now c.split_at.result.0.now c.split_at.result.1.now c.in-Some-memchr.index c.in-Some.ensures c.in-Some-memchr.ensures e.front e.back)

pub returns : goal.returns
returns c =
    let e = c.split_at-2.ensures in
    plain_field c.args.text.now c.split_at-2.result.0.now c.split_at-2.result.1.now c.field_length.result c.field_length.ensures.at e.front e.back
