use Rattle.std.proofs.Common.{◌∙◌, sym}
use Rattle.std.proofs.lemmas.List.{take_rest}
use Rattle.mq_trace.proofs.QuoteFacts.{bare_marked, bare_plain}
use Rattle.mq_trace.proofs.quotes.unmarked.Goals as goal

pub returns-then-starts_with : goal.returns-then-starts_with
returns-then-starts_with c = take_rest c.args.text.now 3 ∙ bare_marked c.args.text.now (sym c.starts_with.ensures.value ∙ c.if-starts_with.true)

pub returns-else-starts_with : goal.returns-else-starts_with
returns-else-starts_with c = bare_plain c.args.text.now (sym c.starts_with.ensures.value ∙ c.if-starts_with.false)
