use Rattle.std.proofs.Common.{◌∙◌, ap, sym}
use Rattle.mq_trace.specs.Quotes.{is_outside}
use Rattle.mq_trace.proofs.QuoteFacts.{behind_bytes, bytes_behind, field_byte, last_decides, not_quoted, quoted_stays, start_byte}
use Rattle.mq_trace.proofs.quotes.place_behind_bytes.Goals as goal

pub returns-in-Quoted : goal.returns-in-Quoted
returns-in-Quoted c = λ front here.
    bytes_behind front c.args.bytes.now c.requires ∙ ap (λ p. behind_bytes p c.args.bytes.now) (here ∙ c.in-Quoted.is) ∙ quoted_stays c.args.bytes.now

pub returns-in_default-place : goal.returns-in_default-place
returns-in_default-place c = λ front here.
    last_decides front c.args.bytes.now c.in-Some.last.now c.requires (ap is_outside here ∙ not_quoted c.args.place c.in_default-place.not-Quoted) (sym c.in-Some.ensures.value)
    ∙ start_byte c.in-Some.last.now c.ends_field.result c.ends_field.ensures c.if-ends_field.true

pub returns-in_default-2 : goal.returns-in_default-2
returns-in_default-2 c = λ front here.
    last_decides front c.args.bytes.now c.in-Some.last.now c.requires (ap is_outside here ∙ not_quoted c.args.place c.in_default-2.not-Quoted) (sym c.in-Some.ensures.value)
    ∙ field_byte c.in-Some.last.now c.ends_field.result c.ends_field.ensures c.if-ends_field.false
