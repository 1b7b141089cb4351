use Rattle.std.proofs.Common.{[], ◌∷◌}
use Rattle.mq_outside.proofs.lemmas.Readings.{reads_both}
use Rattle.mq_outside.proofs.lemmas.Writings.{writes_wider}
use Rattle.mq_edit.specs.Ends.{IsText, writing_of}
use Rattle.mq_edit.proofs.Cases.{trace_count, trace_refusal_count, trace_refusal_unwritten, writes_nothing}
use Rattle.mq_edit.proofs.Told.{trace_end}
use Rattle.mq_edit.proofs.stages.run_edits.Goals as goal

pub returns-in-Ok-clause-reads : goal.returns-in-Ok-clause-reads
returns-in-Ok-clause-reads g c = (1, trace_count _ c.edit_read.ensures.behind, reads_both _ _ _ _ _ _ _ (c.args.trace.now ∷ []) c.args.edits.now [] _ c.in-Ok.ensures.reads c.edit_read.ensures.reads)

pub returns-in-Ok-clause-writes : goal.returns-in-Ok-clause-writes
returns-in-Ok-clause-writes g c =
    writes_wider _ _ _ _ _ (writing_of c.edit_read.result) _ _
    (λ text is. trace_end c.args.plan.now.net c.in-Ok.rows _ _ _ (IsText text) c.in-Ok.ensures.accepted (c.in-Ok.ensures.reads.same_told _) is) c.edit_read.ensures.writes

pub returns-in-Err-clause-reads : goal.returns-in-Err-clause-reads
returns-in-Err-clause-reads g c = (0, trace_refusal_count _ _ _ c.in-Err.ensures.refused, c.in-Err.ensures.reads)

pub returns-in-Err-clause-writes : goal.returns-in-Err-clause-writes
returns-in-Err-clause-writes g c = writes_nothing _ _ _ _ _ _ (trace_refusal_unwritten _ _ _ c.in-Err.ensures.refused)
