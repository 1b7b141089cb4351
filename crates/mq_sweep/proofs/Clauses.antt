-- What the clauses `reads` and `writes` of `sweep` say in single facts: how often files are read, which faults are counted, and what the output has.
use Rattle.std.proofs.Common.{◌≡◌, ◌≢◌, ◌∙◌, ◌||◌, ◌⊎◌, inl, inr, ℕ, ◌+◌, ◌^◌, ◌<◌, ◌≤◌, Bool, true, false, List, length, Option, refl, sym, ap, subst, arith, nat_lt, true≢false}
use Rattle.std.proofs.lemmas.Bool.{cases_Bool, ltb-false}
use Rattle.std.specs.List.{list_all}
use Rattle.mq_outside.specs.Outside.{Rose}
use Rattle.mq_outside.specs.Reading.{IsReadCount, ReadsFirst, counted, is_unread}
use Rattle.mq_outside.specs.Writing.{Writes}
use Rattle.mq_outside.proofs.lemmas.Readings.{counted_few, count_within, first_all_sure, first_counts}
use Rattle.mq_outside.proofs.lemmas.Writings.{writes_calm, writes_later}
use Rattle.mq_sweep.specs.Ends.{IsSweepOf, IsText, reading_of, writing_of}
use Rattle.mq_sweep.specs.Sweep.{AreFiles, names_read, refuses_words, sweep_answer}
use Rattle.mq_sweep.specs.Sweep.SweepAnswer.{Swept}
use Rattle.mq_sweep.proofs.Files.{none_read, words_read}
use Rattle.mq_sweep.specs.declared.outcome.SweepOutcome.{SweepOutcome}
use Rattle.mq_sweep.specs.declared.outcome.SweepOutcome.TheVariants.{Done, Refused, Usage, TooLong, ReadFault, WriteFault, Memory}

-- ---- what is read

-- so many reads were made; it is stated where their number is below 2 ^ 63 at entry
abbrev pub HasRead : (count before now : ℕ) → Type 0
HasRead count before now = before < 2 ^ 63 → now ≡ before + count

-- how many reads a sweep of so many words made, by its outcome; want of memory may come before each of them
abbrev pub Reads : ℕ → SweepOutcome → ℕ → ℕ → Type 0
Reads words Usage before now = now ≡ before
Reads words (TooLong word) before now = HasRead word before now
Reads words (ReadFault word) before now = HasRead word before now
Reads words Memory before now = (count : ℕ) × (count ≤ words) × HasRead count before now
Reads words Done before now = HasRead words before now
Reads words Refused before now = HasRead words before now
Reads words WriteFault before now = HasRead words before now

-- The count of faults rose in this read of a call, from 1. It is stated where the number of reads is below 2 ^ 63 at entry.
abbrev pub FailedIn : (nth reads reads' faults' : ℕ) → Type 0
FailedIn nth reads reads' faults' = reads < 2 ^ 63 → (reads' ≡ reads + nth) × (faults' ≡ reads')

by_count : (o : SweepOutcome) (words count before now : ℕ) → o ≢ Usage → IsReadCount (reading_of o) words count → HasRead count before now → Reads words o before now
by_count Usage words count before now fine h is = absurd (fine refl)
by_count (TooLong word) words count before now fine h is = subst (λ n. HasRead n before now) h.0 is
by_count (ReadFault word) words count before now fine h is = subst (λ n. HasRead n before now) h.0 is
by_count Memory words count before now fine h is = (count, h, is)
by_count Done words count before now fine h is = subst (λ n. HasRead n before now) h is
by_count Refused words count before now fine h is = subst (λ n. HasRead n before now) h is
by_count WriteFault words count before now fine h is = subst (λ n. HasRead n before now) h is

quiet_of : {B : Type 0} (o : SweepOutcome) → (is_unread (reading_of o) ≡ false → B) → ((w : ℕ) × (o ≡ ReadFault w)) ⊎ B
quiet_of (ReadFault word) k = inl (word, refl)
quiet_of Done k = inr (k refl)
quiet_of Refused k = inr (k refl)
quiet_of Usage k = inr (k refl)
quiet_of (TooLong word) k = inr (k refl)
quiet_of WriteFault k = inr (k refl)
quiet_of Memory k = inr (k refl)

neither : (a b : Bool) → (a || b) ≡ false → (a ≡ false) × (b ≡ false)
neither true b e = absurd (true≢false e)
neither false b e = (refl, e)

-- words that aren't refused are no more than 65
few_words : (words : List (List ℕ)) → refuses_words words ≡ false → length words ≤ 65
few_words words fine = below (length words) (neither (nat_lt (length words) 2) (nat_lt 65 (length words)) (neither _ _ fine).0).1
  where
    below : (n : ℕ) → nat_lt 65 n ≡ false → n ≤ 65
    below n few = ltb-false 65 n few

module _ {F : Type 0} (told : F → List ℕ → Option (List ℕ)) (is_sure : F → List ℕ → Bool) (reads faults : F → ℕ) (old new : F) (words : List (List ℕ)) (result : SweepOutcome)
    (usage : result ≡ Usage → refuses_words words ≡ true) (usage_comes : refuses_words words ≡ true → result ≡ Usage) (read : ReadsFirst told is_sure reads faults old new (names_read words) (reading_of result)) where
  counts : reads new ≡ counted read.count (reads old)
  counts = first_counts told is_sure reads faults old new (names_read words) (reading_of result) read

  -- no more names are read than there are words
  few_names : (length (names_read words) ≤ 65) × (length (names_read words) ≤ length words)
  few_names = elim (cases_Bool (refuses_words words)) [
    | inl refused ↦ let none : length (names_read words) ≡ 0 = ap length (none_read words refused) in (omega arith, omega arith)
    | inr fine ↦ let all : length (names_read words) ≡ length words = ap length (words_read words fine) in let few : length words ≤ 65 = few_words words fine in (omega arith, omega arith)
  ]

  has_read : HasRead read.count (reads old) (reads new)
  has_read few =
      let most : read.count ≤ length (names_read words) = count_within (reading_of result) (length (names_read words)) read.count read.is_count in
      let few_n : length (names_read words) ≤ 65 = few_names.0 in
      counts ∙ counted_few read.count (reads old) (omega arith) few

  pub clause_unread : refuses_words words ≡ true → new ≡ old
  clause_unread refused = read.unread (none_read words refused)

  pub clause_reads : Reads (length words) result (reads old) (reads new)
  clause_reads = elim (cases_Bool (refuses_words words)) [
    | inl refused ↦ subst (λ o. Reads (length words) o (reads old) (reads new)) (sym (usage_comes refused)) (ap reads (clause_unread refused))
    | inr fine ↦ by_count result (length words) read.count (reads old) (reads new) (λ e. true≢false (sym (usage e) ∙ fine))
        (subst (λ ns. IsReadCount (reading_of result) (length ns) read.count) (words_read words fine) read.is_count) has_read
  ]

  pub clause_read_fault : (w : ℕ) → result ≡ ReadFault w → (1 ≤ w) × (w ≤ length words) × FailedIn w (reads old) (reads new) (faults new) × Rose (faults old) (faults new)
  clause_read_fault w e =
      let at : (read.count ≡ w) × (1 ≤ w) × (w ≤ length (names_read words)) = subst (λ o. IsReadCount (reading_of o) (length (names_read words)) read.count) e read.is_count in
      let unread : is_unread (reading_of result) ≡ true = ap (λ o. is_unread (reading_of o)) e in
      let within : length (names_read words) ≤ length words = few_names.1 in
      (at.1, omega (arith, at.2, within), λ few. (subst (λ n. HasRead n (reads old) (reads new)) at.0 has_read few, read.first.at unread), read.first.rose unread)

  pub clause_sure_names : list_all (is_sure old) words ≡ true → faults new ≡ faults old
  clause_sure_names all = first_all_sure told is_sure reads faults old new (names_read words) (reading_of result) read sure
    where
      sure : list_all (is_sure old) (names_read words) ≡ true
      sure = elim (cases_Bool (refuses_words words)) [
        | inl refused ↦ ap (list_all (is_sure old)) (none_read words refused)
        | inr fine ↦ ap (list_all (is_sure old)) (words_read words fine) ∙ all
      ]

  pub clause_files_quiet : ((w : ℕ) × (result ≡ ReadFault w)) ⊎ (faults new ≡ faults old)
  clause_files_quiet = quiet_of result read.first.quiet

  pub clause_files_later : faults old ≤ faults new
  clause_files_later = read.first.later

  pub clause_same_told : (n : List ℕ) → told new n ≡ told old n
  clause_same_told = read.first.same_told

  pub clause_same_sure : (n : List ℕ) → is_sure new n ≡ is_sure old n
  clause_same_sure = read.first.same_sure

-- ---- what the output gains

-- after every outcome but Done, Refused and WriteFault nothing changed
abbrev pub Untouched : {A : Type 0} → SweepOutcome → A → A → Type 0
Untouched Done before now = Unit {0}
Untouched Refused before now = Unit {0}
Untouched WriteFault before now = Unit {0}
Untouched Usage before now = now ≡ before
Untouched (TooLong word) before now = now ≡ before
Untouched (ReadFault word) before now = now ≡ before
Untouched Memory before now = now ≡ before

module _ {O : Type 0} (taken : O → Option (List ℕ)) (sure faults : O → ℕ) (old new : O) (told : List (Option (List ℕ))) where
  out_quiet : (o : SweepOutcome) → Writes taken sure faults old new (writing_of o) (IsSweepOf told) → (o ≡ WriteFault) ⊎ (faults new ≡ faults old)
  out_quiet WriteFault w = inl refl
  out_quiet Done w = inr w.quiet
  out_quiet Refused w = inr w.quiet
  out_quiet Usage w = inr (ap faults w)
  out_quiet (TooLong word) w = inr (ap faults w)
  out_quiet (ReadFault word) w = inr (ap faults w)
  out_quiet Memory w = inr (ap faults w)

  untouched : (o : SweepOutcome) → Writes taken sure faults old new (writing_of o) (IsSweepOf told) → Untouched o old new
  untouched WriteFault w = tt
  untouched Done w = tt
  untouched Refused w = tt
  untouched Usage w = w
  untouched (TooLong word) w = w
  untouched (ReadFault word) w = w
  untouched Memory w = w

  module _ (result : SweepOutcome) (w : Writes taken sure faults old new (writing_of result) (IsSweepOf told)) where
    pub clause_out_later : faults old ≤ faults new
    clause_out_later = writes_later taken sure faults old new (writing_of result) (IsSweepOf told) w

    pub clause_write : result ≡ WriteFault → Rose (faults old) (faults new)
    clause_write e = (subst (λ o. Writes taken sure faults old new (writing_of o) (IsSweepOf told)) e w).rose

    pub clause_out_quiet : (result ≡ WriteFault) ⊎ (faults new ≡ faults old)
    clause_out_quiet = out_quiet result w

    pub clause_sure : (contents : List (List ℕ)) (text : List ℕ) (done : Bool) → AreFiles told contents → sweep_answer contents ≡ Swept text done → length text ≤ sure old → faults new ≡ faults old
    clause_sure contents text done are is room =
        writes_calm taken sure faults old new (writing_of result) (IsSweepOf told)
        (λ t p. let same : t ≡ text = subst (IsText t) is (p contents are) in subst (λ x. length x ≤ sure old) (sym same) room) w

    pub clause_untouched : Untouched result old new
    clause_untouched = untouched result w
