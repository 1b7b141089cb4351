use Rattle.std.proofs.Common.{◌≡◌, ◌∙◌, ℕ, List, Option, length, map, take, ap, sym, subst}
use Rattle.std.proofs.lemmas.List.{length-map}
use Rattle.std.specs.Borrow.{Bor}
use Rattle.mq_base.specs.Text.{texts}
use Rattle.mq_top.specs.Ends.{takings}
use Rattle.mq_outside.specs.Reading.{IsReadCount, ReadsNames}
use Rattle.mq_outside.specs.Reading.Reading.{Through}
use Rattle.mq_outside.proofs.lemmas.Readings.{reads_nothing}
use Rattle.mq_outside.proofs.lemmas.Writings.{writes_wider}
use Rattle.mq_sweep.specs.Ends.{IsText, SweepEnds, reading_of, writing_of}
use Rattle.mq_sweep.specs.Sweep.{SweepAnswer, names_read, sweep_answer, swept}
use Rattle.mq_sweep.proofs.Files.{answer_read, none_read, reading_unwritten, reads_words, refused_ends, run_count, run_unread, writes_nothing}
use Rattle.mq_sweep.proofs.top.sweep_words.Goals as goal

-- something is told, or isn't, of each word
as_long : (told : List ℕ → Option (List ℕ)) (words : List (Bor (List ℕ))) → length (map told (texts words)) ≡ length words
as_long told words = length-map (texts words) told ∙ length-map words (λ (t : Bor (List ℕ)). t.now)

pub returns-in-Ok-clause-ends : goal.returns-in-Ok-clause-ends
returns-in-Ok-clause-ends g c contents accepted are =
    let told : List ℕ → Option (List ℕ) = g.F.Files.told c.args.files.now in
    let same : sweep_answer contents ≡ swept c.as_slice.result.now =
    answer_read (map told (texts c.args.words.now)) contents c.in-Ok.contents (length c.args.words.now) are (as_long told c.args.words.now) c.in-Ok.ensures.len c.in-Ok.ensures.read c.in-Ok.ensures.short
    ∙ ap swept (sym c.as_slice.ensures) in
    subst (λ (a : SweepAnswer). SweepEnds a c.run_files-outcome.result (takings g.O.Sink.taken g.O.Sink.sure c.args.out.now c.run_files-outcome.new.out)) (sym same) c.run_files-outcome.ensures.ends

pub returns-in-Ok-clause-reads : goal.returns-in-Ok-clause-reads
returns-in-Ok-clause-reads g c =
    let words : List (List ℕ) = texts c.args.words.now in
    let (n, all, h) = c.in-Ok.ensures.reads in
    reads_words _ _ _ _ _ _ words (reading_of c.run_files-outcome.result) n (sym c.refuses_words.ensures ∙ c.if-refuses_words.false)
    (run_count c.run_files-outcome.result (length words) n c.run_files-outcome.ensures.late (all ∙ sym (length-map c.args.words.now (λ (t : Bor (List ℕ)). t.now))))
    (subst (ReadsNames g.F.Files.told g.F.Files.is_sure g.F.Files.reads g.F.Files.faults c.args.files.now c.read_files.new.files (take n words)) (sym (run_unread c.run_files-outcome.result c.run_files-outcome.ensures.late)) h)

pub returns-in-Ok-clause-writes : goal.returns-in-Ok-clause-writes
returns-in-Ok-clause-writes g c =
    writes_wider _ _ _ _ _ (writing_of c.run_files-outcome.result) _ _
    (λ text is contents are.
    let told : List ℕ → Option (List ℕ) = g.F.Files.told c.args.files.now in
    let same : sweep_answer contents ≡ swept c.as_slice.result.now =
    answer_read (map told (texts c.args.words.now)) contents c.in-Ok.contents (length c.args.words.now) are (as_long told c.args.words.now) c.in-Ok.ensures.len c.in-Ok.ensures.read c.in-Ok.ensures.short
    ∙ ap swept (sym c.as_slice.ensures) in
    subst (IsText text) (sym same) is) c.run_files-outcome.ensures.writes

pub returns-in-Err-clause-ends : goal.returns-in-Err-clause-ends
returns-in-Err-clause-ends g c contents accepted are =
    let told : List ℕ → Option (List ℕ) = g.F.Files.told c.args.files.now in
    refused_ends (length c.args.words.now) (map told (texts c.args.words.now)) contents c.in-Err.outcome (takings g.O.Sink.taken g.O.Sink.sure c.args.out.now c.args.out.now) are (as_long told c.args.words.now) c.in-Err.ensures.refused

pub returns-in-Err-clause-reads : goal.returns-in-Err-clause-reads
returns-in-Err-clause-reads g c =
    let words : List (List ℕ) = texts c.args.words.now in
    let (n, count, h) = c.in-Err.ensures.reads in
    reads_words _ _ _ _ _ _ words (reading_of c.in-Err.outcome) n (sym c.refuses_words.ensures ∙ c.if-refuses_words.false)
    (subst (λ all. IsReadCount (reading_of c.in-Err.outcome) all n) (sym (length-map c.args.words.now (λ (t : Bor (List ℕ)). t.now))) count) h

pub returns-in-Err-clause-writes : goal.returns-in-Err-clause-writes
returns-in-Err-clause-writes g c = writes_nothing _ _ _ _ _ _ (reading_unwritten _ _ _ c.in-Err.ensures.refused)

pub returns-then-refuses_words-clause-reads : goal.returns-then-refuses_words-clause-reads
returns-then-refuses_words-clause-reads g c =
    reads_nothing _ _ _ _ _ (names_read (texts c.args.words.now)) Through (ap length (sym (none_read (texts c.args.words.now) (sym c.refuses_words.ensures ∙ c.if-refuses_words.true))))
