use Rattle.std.proofs.Common.{◌∙◌, ap}
use Rattle.mq_trace.proofs.QuoteFacts.{behind_quote, quote_behind}
use Rattle.mq_trace.proofs.quotes.place_behind_quote.Goals as goal

pub returns-in-Start : goal.returns-in-Start
returns-in-Start c = λ front here. quote_behind front ∙ ap behind_quote (here ∙ c.in-Start.is)

pub returns-in-Field : goal.returns-in-Field
returns-in-Field c = λ front here. quote_behind front ∙ ap behind_quote (here ∙ c.in-Field.is)

pub returns-in-Quoted : goal.returns-in-Quoted
returns-in-Quoted c = λ front here. quote_behind front ∙ ap behind_quote (here ∙ c.in-Quoted.is)
