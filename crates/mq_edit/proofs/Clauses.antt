-- What the clauses `reads` and `writes` of `edit_trace` say in single facts: how often files are read, which faults are counted, and what the output
-- has, by the outcome.
use Rattle.std.proofs.Common.{◌≡◌, ◌≢◌, ◌∙◌, ◌⊎◌, inl, inr, ap, refl, sym, subst, arith, ℕ, ◌+◌, ◌<◌, ◌≤◌, Bool, true, false, List, [], length, take, Option, Some, None, true≢false}
use Rattle.std.specs.Io.KnownBytes.{append_known}
use Rattle.std.specs.Prelude.{IfSome}
use Rattle.mq_outside.specs.Outside.{Rose, TakesPrefix}
use Rattle.mq_outside.specs.Reading.{IsReadCount, ReadsFirst, ReadsNames, is_unread}
use Rattle.mq_outside.specs.Writing.{TakesPart, TakesWhole, Writes}
use Rattle.mq_edit.specs.Answer.{Answer, answer_of, answer_told}
use Rattle.mq_edit.specs.Answer.Answer.{Refused, Reported}
use Rattle.mq_edit.specs.Ends.{IsReportOf, IsText, reading_of, writing_of}
use Rattle.mq_edit.specs.Words.{name_at, names_read, refuses_words}
use Rattle.mq_edit.proofs.Told.{three, words_read}
use Rattle.mq_edit.specs.declared.outcome.EditOutcome.{EditOutcome}
use Rattle.mq_edit.specs.declared.outcome.EditOutcome.TheVariants.{Done, Usage, Model, Trace, Edits, Over, Past, ReadFault, WriteFault, Memory}

-- ---- what is read

-- so many files were read by a call that ends so
abbrev pub IsCount : EditOutcome → ℕ → Type 0
IsCount Memory reads = reads ≤ 3
IsCount Done reads = reads ≡ 3
IsCount Usage reads = reads ≡ 0
IsCount (Model f) reads = reads ≡ 1
IsCount (Trace f) reads = reads ≡ 2
IsCount (Edits f) reads = reads ≡ 3
IsCount (Over edited f) reads = reads ≡ 3
IsCount (Past edited f) reads = reads ≡ 3
IsCount (ReadFault file) reads = (reads ≡ file + 1) × (file < 3)
IsCount WriteFault reads = reads ≡ 3

-- the last read of a call that ends so failed
abbrev pub is_failed : EditOutcome → Bool
is_failed (ReadFault file) = true
is_failed Done = false
is_failed Usage = false
is_failed (Model f) = false
is_failed (Trace f) = false
is_failed (Edits f) = false
is_failed (Over edited f) = false
is_failed (Past edited f) = false
is_failed WriteFault = false
is_failed Memory = false

count_is : (o : EditOutcome) (n : ℕ) → (o ≢ Usage) → IsReadCount (reading_of o) 3 n → IsCount o n
count_is Memory n used h = h
count_is Done n used h = h
count_is Usage n used h = absurd (used refl)
count_is (Model f) n used h = h.0
count_is (Trace f) n used h = h.0
count_is (Edits f) n used h = h
count_is (Over edited f) n used h = h
count_is (Past edited f) n used h = h
count_is (ReadFault file) n used h = (h.0, omega (arith, h.2))
count_is WriteFault n used h = h

failed_is : (o : EditOutcome) → is_unread (reading_of o) ≡ is_failed o
failed_is Memory = refl
failed_is Done = refl
failed_is Usage = refl
failed_is (Model f) = refl
failed_is (Trace f) = refl
failed_is (Edits f) = refl
failed_is (Over edited f) = refl
failed_is (Past edited f) = refl
failed_is (ReadFault file) = refl
failed_is WriteFault = refl

module _ {F : Type 0} (told : F → List ℕ → Option (List ℕ)) (is_sure : F → List ℕ → Bool) (reads faults : F → ℕ) (before after : F) (words : List (List ℕ)) (result : EditOutcome)
    (used : result ≡ Usage → refuses_words words ≡ true) (read : ReadsFirst told is_sure reads faults before after (names_read words) (reading_of result)) where
  pub clause_unread : refuses_words words ≡ true → after ≡ before
  clause_unread refused = read.unread (rw refused refl)

  pub clause_reads : refuses_words words ≡ false → (n : ℕ) × IsCount result n × ReadsNames told is_sure reads faults before after (take n words) (is_failed result)
  clause_reads fine =
      let all : names_read words ≡ words = words_read words fine in
      let long : length (names_read words) ≡ 3 = ap length all ∙ three words fine in (
        read.count,
        count_is result read.count (λ e. true≢false (sym (used e) ∙ fine)) (subst (λ n. IsReadCount (reading_of result) n read.count) long read.is_count),
        subst (λ names. ReadsNames told is_sure reads faults before after (take read.count names) (is_failed result)) all
            (subst (ReadsNames told is_sure reads faults before after (take read.count (names_read words))) (failed_is result) read.first),
      )

-- ---- what the output gains

abbrev text_of : Answer → List ℕ
text_of (Refused refusal) = []
text_of (Reported report) = report

abbrev text_told : Option Answer → List ℕ
text_told None = []
text_told (Some answer) = text_of answer

text_is : (told : Option Answer) → IfSome told (IsText (text_told told))
text_is None = tt
text_is (Some (Refused refusal)) = tt
text_is (Some (Reported report)) = refl

-- after every outcome but Done and WriteFault nothing changed
abbrev pub Untouched : {A : Type 0} → EditOutcome → A → A → Type 0
Untouched Done before now = Unit {0}
Untouched WriteFault before now = Unit {0}
Untouched Usage before now = now ≡ before
Untouched (Model f) before now = now ≡ before
Untouched (Trace f) before now = now ≡ before
Untouched (Edits f) before now = now ≡ before
Untouched (Over edited f) before now = now ≡ before
Untouched (Past edited f) before now = now ≡ before
Untouched (ReadFault file) before now = now ≡ before
Untouched Memory before now = now ≡ before

-- What a sink has of a text, by how the call ends: the whole after Done, and after WriteFault a first part, where its count of
-- faults rose. That never falls, stays after all other outcomes, and where as many bytes are sure as the text has.
pub record HasWritten {S : Type 0} (taken : S → Option (List ℕ)) (sure faults : S → ℕ) (before after : S) (outcome : EditOutcome) (text : List ℕ) : Type 0 where
  pub done : outcome ≡ Done → taken after ≡ append_known (taken before) text
  pub part : outcome ≡ WriteFault → TakesPrefix (taken before) (taken after) (sure before) (sure after) text
  pub rose : outcome ≡ WriteFault → Rose (faults before) (faults after)
  pub quiet : (outcome ≡ WriteFault) ⊎ (faults after ≡ faults before)
  pub later : faults before ≤ faults after
  pub calm : length text ≤ sure before → faults after ≡ faults before
  pub untouched : Untouched outcome before after

module _ {S : Type 0} (taken : S → Option (List ℕ)) (sure faults : S → ℕ) (before after : S) where
  written_whole : (P : List ℕ → Type 0) → TakesWhole taken faults before after P → (text : List ℕ) × HasWritten taken sure faults before after Done text × P text
  written_whole P h = (
    h.text,
    record { done = λ _. h.gained; part = λ e. absurd (cc e); rose = λ e. absurd (cc e); quiet = inr h.quiet; later = omega (arith, h.quiet); calm = λ _. h.quiet; untouched = tt },
    h.is_text,
  )

  written_part : (P : List ℕ → Type 0) → TakesPart taken sure faults before after P → (text : List ℕ) × HasWritten taken sure faults before after WriteFault text × P text
  written_part P h = (
    h.text,
    record { done = λ e. absurd (cc e); part = λ _. h.part; rose = λ _. h.rose; quiet = inl refl; later = h.later; calm = h.calm; untouched = tt },
    h.is_text,
  )

  written_nothing : (o : EditOutcome) (text : List ℕ) → (o ≢ Done) → (o ≢ WriteFault) → Untouched o before after → after ≡ before → HasWritten taken sure faults before after o text
  written_nothing o text undone unfailed untouched same =
      let still : faults after ≡ faults before = ap faults same in
      record { done = λ e. absurd (undone e); part = λ e. absurd (unfailed e); rose = λ e. absurd (unfailed e); quiet = inr still; later = omega (arith, still); calm = λ _. still; untouched = untouched }

  written : (P : List ℕ → Type 0) (o : EditOutcome) (some : List ℕ) → P some → Writes taken sure faults before after (writing_of o) P → (text : List ℕ) × HasWritten taken sure faults before after o text × P text
  written P Done some is h = written_whole P h
  written P WriteFault some is h = written_part P h
  written P Usage some is h = (some, written_nothing Usage some (λ e. cc) (λ e. cc) h h, is)
  written P (Model f) some is h = (some, written_nothing (Model f) some (λ e. cc) (λ e. cc) h h, is)
  written P (Trace f) some is h = (some, written_nothing (Trace f) some (λ e. cc) (λ e. cc) h h, is)
  written P (Edits f) some is h = (some, written_nothing (Edits f) some (λ e. cc) (λ e. cc) h h, is)
  written P (Over edited f) some is h = (some, written_nothing (Over edited f) some (λ e. cc) (λ e. cc) h h, is)
  written P (Past edited f) some is h = (some, written_nothing (Past edited f) some (λ e. cc) (λ e. cc) h h, is)
  written P (ReadFault file) some is h = (some, written_nothing (ReadFault file) some (λ e. cc) (λ e. cc) h h, is)
  written P Memory some is h = (some, written_nothing Memory some (λ e. cc) (λ e. cc) h h, is)

  pub clause_writes : (told : List ℕ → Option (List ℕ)) (words : List (List ℕ)) (result : EditOutcome) → Writes taken sure faults before after (writing_of result) (IsReportOf told words)
      → (text : List ℕ) × HasWritten taken sure faults before after result text × (refuses_words words ≡ false → IfSome (answer_told (told (name_at words 0)) (told (name_at words 1)) (told (name_at words 2))) (IsText text))
  clause_writes told words result writes = written (IsReportOf told words) result (text_told (answer_of told words)) (λ _. text_is (answer_of told words)) writes

-- ---- how the call ends

pub clause_ends : (told : List ℕ → Option (List ℕ)) (words : List (List ℕ)) (P : Answer → Type 0) → (refuses_words words ≡ false → IfSome (answer_of told words) P)
    → refuses_words words ≡ false → IfSome (answer_told (told (name_at words 0)) (told (name_at words 1)) (told (name_at words 2))) P
clause_ends told words P ends fine = ends fine
