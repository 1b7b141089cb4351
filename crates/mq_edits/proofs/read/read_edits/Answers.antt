use Rattle.mq_edits.proofs.WordFacts.{lines_read}
use Rattle.mq_edits.proofs.read.read_edits.Goals as goal

pub returns-in-Ok-clause-read : goal.returns-in-Ok-clause-read
returns-in-Ok-clause-read c = rw c.in-Ok.ensures.edits (lines_read c.args.net.now c.args.rows 1 _ c.in-Ok.ensures.ok)
