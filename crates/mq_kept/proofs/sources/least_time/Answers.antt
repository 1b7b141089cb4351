use Rattle.std.proofs.Common.{arith}
use Rattle.mq_kept.proofs.SourceRows.{rows-least}
use Rattle.mq_kept.proofs.sources.least_time.Goals as goal

pub returns : goal.returns
returns c = λ job. rows-least c.args.number job c.loop-at.least c.args.source.now c.args.time.now c.requires (λ k l. c.loop-at.invariant k (omega arith))
