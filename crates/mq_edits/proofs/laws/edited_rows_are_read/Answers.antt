use Rattle.mq_edits.proofs.RowFacts.{edited_are_read}
use Rattle.mq_edits.proofs.laws.edited_rows_are_read.Goals as goal

pub returns : goal.returns
returns c net rows edits read fit = edited_are_read net rows edits read fit
