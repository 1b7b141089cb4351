use Rattle.std.proofs.Common.{◌∙◌, Some, refl, sym, subst, arith}
use Rattle.mq_core.specs.declared.model.Rows.{Rows}
use Rattle.mq_edits.specs.Edited.{edited_rows}
use Rattle.mq_kept.specs.NodeRuns.{AreNodesBefore}
use Rattle.mq_edits.specs.Former.{rows_before}
use Rattle.mq_kept.proofs.Behind.{counted-view, kept-back, kept-before, kept-behind, redone-view, spent-view}
use Rattle.mq_kept.proofs.kept.Kept.edit.Goals as goal

pub run_again-result-requires-clause-before : goal.run_again-result-requires-clause-before
run_again-result-requires-clause-before g c κs within =
    let it = c.self.inside in
    subst (λ (rows : Rows). AreNodesBefore it.plan.now (Some rows) it.block c.taken-nodes.result) (sym c.in-Ok.ensures.before)
    (kept-before c.core_laws.ensures c.runs_have_sequences.ensures it.plan.now it.rows it.run it.checkpoints it.workers it.block c.self.invariant c.taken-nodes.result c.taken-nodes.ensures.visits c.taken-nodes.ensures.outputs c.taken-nodes.ensures.checkpoints)

pub invariant_of-self : goal.invariant_of-self
invariant_of-self g c =
    let it = c.self.inside in
    kept-back it.plan.now it.rows c.edit_rows.new.rows it.run it.run.visits it.run.outputs it.checkpoints it.checkpoints it.workers it.block c.self.invariant c.in_default.ensures.err refl refl refl

pub invariant_of-self-in-Ok-result : goal.invariant_of-self-in-Ok-result
invariant_of-self-in-Ok-result g c =
    let it = c.self.inside in
    kept-behind it.plan.now c.edit_rows.new.rows it.rows c.edit_rows.new.rows c.in-Ok-result.whole.run it.run c.replace.new.dest c.in-Ok-result.whole.checkpoints it.checkpoints c.replace-in-Ok-result.new.dest it.workers it.block c.self.invariant c.in-Ok-result.ensures.kept refl c.replace.ensures.after c.replace-in-Ok-result.ensures.after

pub invariant_of-self-in-Err : goal.invariant_of-self-in-Err
invariant_of-self-in-Err g c =
    let it = c.self.inside in
    let back = c.in-Err.ensures.back in
    let was = c.taken-nodes.ensures in
    kept-back it.plan.now it.rows c.put_back.new.rows it.run c.put.new.run.visits c.put.new.run.outputs it.checkpoints c.put.new.checkpoints it.workers it.block c.self.invariant
    (c.put_back.ensures ∙ c.in-Ok.ensures.before) (c.put.ensures.visits ∙ (back.0 ∙ was.visits)) (c.put.ensures.outputs ∙ (back.1 ∙ was.outputs)) (c.put.ensures.checkpoints ∙ (back.2 ∙ was.checkpoints))

pub returns-in-Ok-result-clause-redone : goal.returns-in-Ok-result-clause-redone
returns-in-Ok-result-clause-redone g c = redone-view c.self.inside.plan.now c.self.inside.rows (rows_before c.in-Ok.former c.edit_rows.new.rows) c.edit_rows.new.rows c.self.inside.run c.self.inside.workers c.self.inside.block c.args.edits.now c.in-Ok.ensures.before c.in-Ok.ensures.exact c.args.self.now c.self.view_is c.in-Ok-result.whole.redone c.in-Ok-result.ensures.redone

pub returns-in-Ok-result-clause-spent : goal.returns-in-Ok-result-clause-spent
returns-in-Ok-result-clause-spent g c = spent-view c.self.inside.plan.now c.self.inside.rows (rows_before c.in-Ok.former c.edit_rows.new.rows) c.edit_rows.new.rows c.self.inside.run c.self.inside.workers c.self.inside.block c.args.edits.now c.in-Ok.ensures.before c.in-Ok.ensures.exact c.args.self.now c.self.view_is c.args.steps.now c.run_again-result.new.steps c.run_again-result.ensures.spent

pub returns-in-Ok-result-clause-counted : goal.returns-in-Ok-result-clause-counted
returns-in-Ok-result-clause-counted g c = counted-view c.self.inside.plan.now c.self.inside.rows (rows_before c.in-Ok.former c.edit_rows.new.rows) c.edit_rows.new.rows c.self.inside.run c.self.inside.workers c.self.inside.block c.args.edits.now c.in-Ok.ensures.before c.in-Ok.ensures.exact c.args.self.now c.self.view_is c.args.steps.now c.run_again-result.new.steps c.in-Ok-result.ensures.counted

pub returns-in-Err-clause-spent : goal.returns-in-Err-clause-spent
returns-in-Err-clause-spent g c = spent-view c.self.inside.plan.now c.self.inside.rows (rows_before c.in-Ok.former c.edit_rows.new.rows) c.edit_rows.new.rows c.self.inside.run c.self.inside.workers c.self.inside.block c.args.edits.now c.in-Ok.ensures.before c.in-Ok.ensures.exact c.args.self.now c.self.view_is c.args.steps.now c.run_again-result.new.steps c.run_again-result.ensures.spent

pub returns-in-Ok-result-clause-most : goal.returns-in-Ok-result-clause-most
returns-in-Ok-result-clause-most g c =
    let k = c.args.self.now in
    let spent = spent-view c.self.inside.plan.now c.self.inside.rows (rows_before c.in-Ok.former c.edit_rows.new.rows) c.edit_rows.new.rows c.self.inside.run c.self.inside.workers c.self.inside.block c.args.edits.now c.in-Ok.ensures.before c.in-Ok.ensures.exact c.args.self.now c.self.view_is c.args.steps.now c.run_again-result.new.steps c.run_again-result.ensures.spent in
    let within = c.again_is_bounded.ensures.worked_within k.plan.net k.rows (edited_rows k.rows c.args.edits.now) k.block in
    omega arith

pub returns-in-Err-clause-most : goal.returns-in-Err-clause-most
returns-in-Err-clause-most g c =
    let k = c.args.self.now in
    let spent = spent-view c.self.inside.plan.now c.self.inside.rows (rows_before c.in-Ok.former c.edit_rows.new.rows) c.edit_rows.new.rows c.self.inside.run c.self.inside.workers c.self.inside.block c.args.edits.now c.in-Ok.ensures.before c.in-Ok.ensures.exact c.args.self.now c.self.view_is c.args.steps.now c.run_again-result.new.steps c.run_again-result.ensures.spent in
    let within = c.again_is_bounded.ensures.worked_within k.plan.net k.rows (edited_rows k.rows c.args.edits.now) k.block in
    omega arith
