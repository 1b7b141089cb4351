use Rattle.std.proofs.Common.{◌∙◌, sym, subst, [], ◌∷◌, ◌+◌}
use Rattle.mq_base.specs.Text.{texts}
use Rattle.mq_outside.specs.Reading.{ReadsNames, is_unread}
use Rattle.mq_outside.specs.Reading.Reading.{Through}
use Rattle.mq_outside.proofs.lemmas.Readings.{reads_both, reads_nothing, reads_some}
use Rattle.mq_outside.proofs.lemmas.Writings.{writes_wider}
use Rattle.mq_edit.specs.Ends.{Ends, IsText, reading_of, writing_of}
use Rattle.mq_edit.specs.Words.{names_read}
use Rattle.mq_edit.proofs.Cases.{model_refusal_count, model_refusal_unwritten, writes_nothing}
use Rattle.mq_edit.proofs.Told.{first_names, model_behind, model_refused, named, names_are, none_read, trace_named, words_read}
use Rattle.mq_edit.proofs.stages.edit_trace.Goals as goal

pub returns-in-Ok-clause-ends : goal.returns-in-Ok-clause-ends
returns-in-Ok-clause-ends g c fine =
    named (g.F.Files.told c.args.files.now) (texts c.args.words.now) _ _ _ (λ answer. Ends answer c.run_edits-outcome.result) (names_are c.args.words.now (record { ref_ptr = (0, 0); now = [] }) fine)
    (model_behind c.in-Ok.plan.net _ _ _ _ _ (λ answer. Ends answer c.run_edits-outcome.result) (c.in-Ok.ensures.reads.same_told _) (c.in-Ok.ensures.reads.same_told _) c.in-Ok.ensures.accepted c.run_edits-outcome.ensures.ends)

pub returns-in-Ok-clause-trace : goal.returns-in-Ok-clause-trace
returns-in-Ok-clause-trace g c fault is =
    let fine = sym c.refuses_words.ensures ∙ c.if-refuses_words.false in
    trace_named (g.F.Files.told c.args.files.now) (texts c.args.words.now) _ _ _ c.in-Ok.plan.net _ fault (names_are c.args.words.now (record { ref_ptr = (0, 0); now = [] }) fine)
    (c.in-Ok.ensures.reads.same_told _) c.in-Ok.ensures.accepted (c.run_edits-outcome.ensures.trace fault is)

pub returns-in-Ok-clause-reads : goal.returns-in-Ok-clause-reads
returns-in-Ok-clause-reads g c =
    let fine = sym c.refuses_words.ensures ∙ c.if-refuses_words.false in
    let (n, count, more) = c.run_edits-outcome.ensures.reads in
    reads_some _ _ _ _ _ _ (names_read (texts c.args.words.now)) _ _ (reading_of c.run_edits-outcome.result) (n + 2) (words_read (texts c.args.words.now) fine ∙ names_are c.args.words.now (record { ref_ptr = (0, 0); now = [] }) fine) count
    (subst (λ names. ReadsNames g.F.Files.told g.F.Files.is_sure g.F.Files.reads g.F.Files.faults c.args.files.now c.run_edits-outcome.new.files names (is_unread (reading_of c.run_edits-outcome.result)))
    (first_names n _ _ _) (reads_both _ _ _ _ _ _ _ (_ ∷ []) _ _ _ c.in-Ok.ensures.reads more))

pub returns-in-Ok-clause-writes : goal.returns-in-Ok-clause-writes
returns-in-Ok-clause-writes g c =
    writes_wider _ _ _ _ _ (writing_of c.run_edits-outcome.result) _ _
    (λ text is fine. named (g.F.Files.told c.args.files.now) (texts c.args.words.now) _ _ _ (IsText text) (names_are c.args.words.now (record { ref_ptr = (0, 0); now = [] }) fine)
    (model_behind c.in-Ok.plan.net _ _ _ _ _ (IsText text) (c.in-Ok.ensures.reads.same_told _) (c.in-Ok.ensures.reads.same_told _) c.in-Ok.ensures.accepted is)) c.run_edits-outcome.ensures.writes

pub returns-in-Err-clause-ends : goal.returns-in-Err-clause-ends
returns-in-Err-clause-ends g c fine =
    named (g.F.Files.told c.args.files.now) (texts c.args.words.now) _ _ _ (λ answer. Ends answer c.in-Err.outcome) (names_are c.args.words.now (record { ref_ptr = (0, 0); now = [] }) fine)
    (model_refused _ _ _ c.in-Err.outcome c.in-Err.ensures.refused)

pub returns-in-Err-clause-reads : goal.returns-in-Err-clause-reads
returns-in-Err-clause-reads g c =
    let fine = sym c.refuses_words.ensures ∙ c.if-refuses_words.false in
    reads_some _ _ _ _ _ _ (names_read (texts c.args.words.now)) _ _ (reading_of c.in-Err.outcome) 1 (words_read (texts c.args.words.now) fine ∙ names_are c.args.words.now (record { ref_ptr = (0, 0); now = [] }) fine)
    (model_refusal_count _ _ c.in-Err.ensures.refused) c.in-Err.ensures.reads

pub returns-in-Err-clause-writes : goal.returns-in-Err-clause-writes
returns-in-Err-clause-writes g c = writes_nothing _ _ _ _ _ _ (model_refusal_unwritten _ _ c.in-Err.ensures.refused)

pub returns-then-refuses_words-clause-reads : goal.returns-then-refuses_words-clause-reads
returns-then-refuses_words-clause-reads g c =
    reads_nothing _ _ _ _ _ (names_read (texts c.args.words.now)) Through (none_read (texts c.args.words.now) (sym c.refuses_words.ensures ∙ c.if-refuses_words.true))
