use Rattle.std.proofs.Common.{◌∙◌, ap}
use Rattle.mq_core.specs.declared.model.Rows.{Rows}
use Rattle.mq_edits.specs.Edited.{edited_rows}
use Rattle.mq_edits.proofs.FormerFacts.{copy_same}
use Rattle.mq_edits.proofs.rows.edited.Goals as goal

pub edit_rows-requires : goal.edit_rows-requires
edit_rows-requires c =
    let copied = c.in_ok-copy.ensures in
    rw (copy_same c.in_ok-copy.copy c.args.rows.now copied.source copied.time copied.demands) c.requires

pub returns-in-Ok-clause-exact : goal.returns-in-Ok-clause-exact
returns-in-Ok-clause-exact c =
    let copied = c.in_ok-copy.ensures in
    c.in-Ok.ensures.exact ∙ ap (λ (rows : Rows). edited_rows rows c.args.edits.now) (copy_same c.in_ok-copy.copy c.args.rows.now copied.source copied.time copied.demands)

pub returns-in-Ok-clause-read : goal.returns-in-Ok-clause-read
returns-in-Ok-clause-read c =
    let copied = c.in_ok-copy.ensures in
    let same = copy_same c.in_ok-copy.copy c.args.rows.now copied.source copied.time copied.demands in
    λ net read fit. c.in-Ok.ensures.read net (rw same read) (rw same fit)
