use Rattle.std.proofs.Common.{arith}
use Rattle.mq_edits.proofs.FormerFacts.{first_low}
use Rattle.mq_edits.proofs.RowFacts.{edited_are_read}
use Rattle.mq_edits.proofs.rows.edit_rows.Goals as goal

pub copied_rows-requires-clause-inside : goal.copied_rows-requires-clause-inside
copied_rows-requires-clause-inside c =
    let low = first_low c.len.result c.as_slice-edits.result.now in
    omega (arith, low, c.first_set-from.ensures, c.len.ensures)

pub returns-in-Ok-clause-read : goal.returns-in-Ok-clause-read
returns-in-Ok-clause-read c = λ net read fit. rw (c.in-Ok.ensures.ok, c.as_slice-edits.ensures) (edited_are_read net c.args.rows.now c.args.edits.now read fit)
