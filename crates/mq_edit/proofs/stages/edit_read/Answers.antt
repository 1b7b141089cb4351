use Rattle.std.proofs.Common.{List, ℕ, subst, sym}
use Rattle.std.specs.Prelude.{IfSome}
use Rattle.mq_outside.proofs.lemmas.Writings.{writes_wider}
use Rattle.mq_edit.specs.Answer.{edits_told}
use Rattle.mq_edit.specs.Ends.{IsText, writing_of}
use Rattle.mq_edit.proofs.Cases.{edits_refusal_unwritten, writes_nothing}
use Rattle.mq_edit.proofs.Told.{edits_text}
use Rattle.mq_edit.proofs.stages.edit_read.Goals as goal

pub returns-in-Ok-clause-writes : goal.returns-in-Ok-clause-writes
returns-in-Ok-clause-writes g c =
    writes_wider _ _ _ _ _ (writing_of c.edit_rows-outcome.result) _ _
    (λ text is. subst (λ (t : List ℕ). IfSome (edits_told c.args.plan.now.net c.args.rows (g.F.Files.told c.args.files.now c.args.edits.now)) (IsText t)) (sym is)
    (edits_text c.args.plan.now.net c.args.rows _ _ c.in-Ok.edits c.len.ensures c.in-Ok.ensures.accepted)) c.edit_rows-outcome.ensures.writes

pub returns-in-Err-clause-writes : goal.returns-in-Err-clause-writes
returns-in-Err-clause-writes g c = writes_nothing _ _ _ _ _ _ (edits_refusal_unwritten _ _ _ _ c.in-Err.ensures.refused)
