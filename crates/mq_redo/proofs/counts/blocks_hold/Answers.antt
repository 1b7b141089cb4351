use Rattle.mq_redo.proofs.Holding.{holds}
use Rattle.mq_redo.proofs.counts.blocks_hold.Goals as goal

pub returns : goal.returns
returns c = holds c.args.blocks.now
