use Rattle.std.proofs.Common.{length}
use Rattle.csv.specs.Reading.{strip_bom}
use Rattle.mq_trace.specs.Quotes.{begins, state_after}
use Rattle.mq_trace.proofs.QuoteFacts.{Standing}
use Rattle.mq_trace.proofs.quotes.ends_outside.Given as goal

abbrev pub invariant-loop-at : goal.invariant-loop-at
invariant-loop-at l = Standing l.place l.rest (state_after (begins l.fn.outside) (strip_bom l.fn.piece))

abbrev pub decreases-loop-at : goal.decreases-loop-at
decreases-loop-at l = length l.rest
