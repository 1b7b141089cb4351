use Rattle.std.proofs.Common.{◌∙◌, ap, false, sym, true}
use Rattle.mq_edits.specs.Edited.{edited_rows}
use Rattle.mq_edit.specs.Answer.{edited_report, run_answer}
use Rattle.mq_edit.specs.Ends.{writing_of}
use Rattle.mq_edit.proofs.Cases.{run_refusal_unwritten, writes_nothing}
use Rattle.mq_edit.proofs.Told.{refused_after, reported, written_ends}
use Rattle.mq_edit.proofs.stages.edit_rows.Goals as goal

pub returns-in-Ok-edit_kept-clause-ends : goal.returns-in-Ok-edit_kept-clause-ends
returns-in-Ok-edit_kept-clause-ends g c =
    let edited = edited_rows c.args.rows c.args.edits.now in
    let first = rw (c.in-Ok.ensures.plan, c.in-Ok.ensures.rows) at c.in-Ok.ensures.kept.fine in
    let second = rw (c.in-Ok-edit_kept.ensures.plan, c.in-Ok.ensures.plan, c.in-Ok-edit_kept.ensures.rows, c.in-Ok.ensures.rows) at c.in-Ok-edit_kept.ensures.kept.fine in
    let none = sym (c.runs_are_of_networks.ensures c.args.plan.now c.args.rows).1 ∙ first in
    let none' = sym (c.runs_are_of_networks.ensures c.args.plan.now edited).1 ∙ second in
    written_ends (run_answer c.args.plan.now.net c.args.rows edited) (edited_report c.args.plan.now.net c.args.rows edited) c.write_kept-outcome.result
    (reported c.args.plan.now.net c.args.rows edited none none') c.write_kept-outcome.ensures.ends

pub returns-in-Err-edit_kept-clause-ends : goal.returns-in-Err-edit_kept-clause-ends
returns-in-Err-edit_kept-clause-ends g c =
    let edited = edited_rows c.args.rows c.args.edits.now in
    let first = rw (c.in-Ok.ensures.plan, c.in-Ok.ensures.rows) at c.in-Ok.ensures.kept.fine in
    let none = sym (c.runs_are_of_networks.ensures c.args.plan.now c.args.rows).1 ∙ first in
    let cause = rw (c.in-Ok.ensures.plan, c.in-Ok.ensures.rows) at c.in-Err-edit_kept.ensures.cause in
    rw c.refused_run-in-Err-edit_kept.ensures (refused_after c.args.plan.now c.args.rows edited c.in-Err-edit_kept.fault none (c.runs_are_of_networks.ensures c.args.plan.now edited).1 cause)

pub returns-in-Err-clause-writes : goal.returns-in-Err-clause-writes
returns-in-Err-clause-writes g c = writes_nothing _ _ _ _ _ _ (ap writing_of c.refused_run.ensures ∙ run_refusal_unwritten false c.in-Err.fault)

pub returns-in-Err-edit_kept-clause-writes : goal.returns-in-Err-edit_kept-clause-writes
returns-in-Err-edit_kept-clause-writes g c = writes_nothing _ _ _ _ _ _ (ap writing_of c.refused_run-in-Err-edit_kept.ensures ∙ run_refusal_unwritten true c.in-Err-edit_kept.fault)
