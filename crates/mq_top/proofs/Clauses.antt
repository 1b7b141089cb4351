-- What the clauses `reads`, `writes` and `line` of `simulate` say in single facts: how often files are read, which faults are counted, and what the
-- two outputs have.
use Rattle.std.proofs.Common.{◌≡◌, ◌≢◌, ◌∙◌, ◌==◌, ◌⊎◌, inl, inr, ℕ, zero, suc, ◌+◌, ◌-◌, ◌^◌, ◌<◌, ◌≤◌, Bool, true, false, List, [], ◌∷◌, length, take, Option, Some, None, refl, sym, ap, ap₂, subst, arith, if◌then◌else◌}
use Rattle.std.proofs.lemmas.Bool.{and_from, eqb-true}
use Rattle.std.specs.List.{list_all}
use Rattle.mq_gen.specs.Made.{made_model, made_trace}
use Rattle.mq_model.specs.NetworkOf.{network_in}
use Rattle.mq_outcome.specs.Lines.{PutsLine, line_text, name_of}
use Rattle.mq_outcome.specs.declared.outcome.Outcome.{Outcome}
use Rattle.mq_outcome.specs.declared.outcome.Outcome.TheVariants.{Done, Usage, Model, Trace, Past, Over, ReadFault, WriteFault, Memory}
use Rattle.mq_outside.specs.Outside.{Rose, next_count}
use Rattle.mq_outside.specs.Reading.{IsReadCount, ReadsFirst, counted, is_unread, last_of}
use Rattle.mq_outside.specs.Reading.Reading.{FailedAt}
use Rattle.mq_outside.specs.Writing.{Writes}
use Rattle.mq_outside.proofs.lemmas.Readings.{counted_few, first_all_sure, first_counts, first_sure}
use Rattle.mq_outside.proofs.lemmas.Writings.{writes_calm, writes_later}
use Rattle.mq_top.specs.Answer.{Answer, answer, wanted_by}
use Rattle.mq_top.specs.Answer.Answer.{Reported}
use Rattle.mq_top.specs.Ends.{IsOfMade, IsReportOf, IsText, names_read, names_unless, reading_of, writing_of}
use Rattle.mq_top.proofs.Exits.{accepted_fit, asked_names, named_read}
use Rattle.mq_top.proofs.MadeRuns.{some_is_none}
use Rattle.mq_words.specs.Words.{Makes, Names, asks_made, usage_fault, words_left}
use Rattle.mq_words.specs.declared.fault.UsageFault.{UsageFault}

-- ---- what is read

-- no read, one or two
abbrev pub AtMostTwo : ℕ → ℕ → Type 0
AtMostTwo before now = (now ≡ before) ⊎ ((now ≡ next_count before) ⊎ (now ≡ next_count (next_count before)))

-- how many reads a call made, by its outcome, where no made input is asked for; want of memory may come before each of them
abbrev pub Reads : Outcome → ℕ → ℕ → Type 0
Reads (Usage f) before now = now ≡ before
Reads (Model f) before now = now ≡ next_count before
Reads (ReadFault false) before now = now ≡ next_count before
Reads Memory before now = AtMostTwo before now
Reads Done before now = now ≡ next_count (next_count before)
Reads (Trace f) before now = now ≡ next_count (next_count before)
Reads (Past f) before now = now ≡ next_count (next_count before)
Reads (Over f) before now = now ≡ next_count (next_count before)
Reads (ReadFault true) before now = now ≡ next_count (next_count before)
Reads WriteFault before now = now ≡ next_count (next_count before)

-- The count of faults rose in this read of a call, from 1. It is stated where the number of reads is below 2 ^ 63 at entry.
abbrev pub FailedIn : (nth reads reads' faults' : ℕ) → Type 0
FailedIn nth reads reads' faults' = reads < 2 ^ 63 → (reads' ≡ reads + nth) × (faults' ≡ reads')

at_most_two : (before now count : ℕ) → count ≤ 2 → now ≡ counted count before → AtMostTwo before now
at_most_two before now zero few is = inl is
at_most_two before now (suc zero) few is = inr (inl is)
at_most_two before now (suc (suc zero)) few is = inr (inr is)
at_most_two before now (suc (suc (suc count))) few is = absurd (omega (arith, few))

by_count : (o : Outcome) (before now count : ℕ) → ((f : UsageFault) → o ≢ Usage f) → IsReadCount (reading_of o) 2 count → now ≡ counted count before → Reads o before now
by_count (Usage f) before now count fine h is = absurd (fine f refl)
by_count (Model f) before now count fine h is = subst (λ n. now ≡ counted n before) h.0 is
by_count (ReadFault false) before now count fine h is = subst (λ n. now ≡ counted n before) h.0 is
by_count Memory before now count fine h is = at_most_two before now count h is
by_count Done before now count fine h is = subst (λ n. now ≡ counted n before) h is
by_count (Trace f) before now count fine h is = subst (λ n. now ≡ counted n before) h.0 is
by_count (Past f) before now count fine h is = subst (λ n. now ≡ counted n before) h is
by_count (Over f) before now count fine h is = subst (λ n. now ≡ counted n before) h is
by_count (ReadFault true) before now count fine h is = subst (λ n. now ≡ counted n before) h.0 is
by_count WriteFault before now count fine h is = subst (λ n. now ≡ counted n before) h is

-- words that are refused end the call before any read
refused_count : (o : Outcome) (f : UsageFault) (before now : ℕ) → (o ≡ Usage f) ⊎ (o ≡ Memory) → now ≡ before → Reads o before now
refused_count o f before now (inl e) is = subst (λ p. Reads p before now) (sym e) is
refused_count o f before now (inr e) is = subst (λ p. Reads p before now) (sym e) (inl is)

quiet_of : {B : Type 0} (o : Outcome) → (is_unread (reading_of o) ≡ false → B) → (o ≡ ReadFault false) ⊎ ((o ≡ ReadFault true) ⊎ B)
quiet_of (ReadFault false) k = inl refl
quiet_of (ReadFault true) k = inr (inl refl)
quiet_of Done k = inr (inr (k refl))
quiet_of (Usage f) k = inr (inr (k refl))
quiet_of (Model f) k = inr (inr (k refl))
quiet_of (Trace f) k = inr (inr (k refl))
quiet_of (Past f) k = inr (inr (k refl))
quiet_of (Over f) k = inr (inr (k refl))
quiet_of WriteFault k = inr (inr (k refl))
quiet_of Memory k = inr (inr (k refl))

-- a count that stays didn't rise
no_rise : (before now : ℕ) → now ≡ before → before < 2 ^ 64 - 1 → Rose before now → ⊥
no_rise before now e few rose = omega arith

same_last : (a b : List ℕ) → Some a ≡ Some b → a ≡ b
same_last a b e = cc e

two_left : (left : List (List ℕ)) (made : Bool) → made ≡ false → (length left == (if made then 0 else 2)) ≡ true → length left ≡ 2
two_left left made e fits = eqb-true (length left) 2 (ap (λ (b : Bool). length left == (if b then 0 else 2)) (sym e) ∙ fits)

module _ {F : Type 0} (told : F → List ℕ → Option (List ℕ)) (is_sure : F → List ℕ → Bool) (reads faults : F → ℕ) (old new : F) (words : List (List ℕ)) (result : Outcome)
    (usage : (fault : UsageFault) → result ≡ Usage fault → usage_fault words ≡ Some fault) (usage_comes : (fault : UsageFault) → usage_fault words ≡ Some fault → (result ≡ Usage fault) ⊎ (result ≡ Memory))
    (read : ReadsFirst told is_sure reads faults old new (names_read words) (reading_of result)) where
  counts : reads new ≡ counted read.count (reads old)
  counts = first_counts told is_sure reads faults old new (names_read words) (reading_of result) read

  -- which read failed
  failed_nth : (nth : ℕ) → reading_of result ≡ FailedAt nth → read.count ≡ nth
  failed_nth nth e = (subst (λ r. IsReadCount r (length (names_read words)) read.count) e read.is_count).0

  failed_in : (nth : ℕ) → nth ≤ 65 → reading_of result ≡ FailedAt nth → FailedIn nth (reads old) (reads new) (faults new) × Rose (faults old) (faults new)
  failed_in nth small e =
      let unread : is_unread (reading_of result) ≡ true = ap is_unread e in
      (λ few. (counts ∙ ap (λ n. counted n (reads old)) (failed_nth nth e) ∙ counted_few nth (reads old) small few, read.first.at unread), read.first.rose unread)

  pub clause_first : result ≡ ReadFault false → FailedIn 1 (reads old) (reads new) (faults new) × Rose (faults old) (faults new)
  clause_first e = failed_in 1 (omega arith) (ap reading_of e)

  pub clause_second : result ≡ ReadFault true → FailedIn 2 (reads old) (reads new) (faults new) × Rose (faults old) (faults new)
  clause_second e = failed_in 2 (omega arith) (ap reading_of e)

  pub clause_reads : asks_made words ≡ false → Reads result (reads old) (reads new)
  clause_reads asked = by_fault (usage_fault words) refl
    where
      by_fault : (fault : Option UsageFault) → usage_fault words ≡ fault → Reads result (reads old) (reads new)
      by_fault None e =
          let left : names_read words ≡ words_left words = ap (λ (x : Option UsageFault). names_unless x (words_left words)) e in
          let two : length (names_read words) ≡ 2 = ap length left ∙ two_left (words_left words) (asks_made words) asked (accepted_fit words e) in
          by_count result (reads old) (reads new) read.count (λ f is. some_is_none _ f (usage f is) e) (subst (λ n. IsReadCount (reading_of result) n read.count) two read.is_count) counts
      by_fault (Some fault) e =
          let none : names_read words ≡ [] = ap (λ (x : Option UsageFault). names_unless x (words_left words)) e in
          refused_count result fault (reads old) (reads new) (usage_comes fault e) (ap reads (read.unread none))

  pub clause_first_name : (m t : List ℕ) → Names words m t → is_sure old m ≡ true → faults old < 2 ^ 64 - 1 → result ≢ ReadFault false
  clause_first_name m t names sure few e =
      let one : take read.count (names_read words) ≡ m ∷ [] = ap₂ (λ (n : ℕ) (ns : List (List ℕ)). take n ns) (failed_nth 1 (ap reading_of e)) (named_read words m t names) in
      let still : faults new ≡ faults old =
      first_sure told is_sure reads faults old new (names_read words) (reading_of result) read (λ last is. subst (λ n. is_sure old n ≡ true) (same_last m last (sym (ap last_of one) ∙ is)) sure) in
      no_rise (faults old) (faults new) still few (read.first.rose (ap (λ o. is_unread (reading_of o)) e))

  pub clause_second_name : (m t : List ℕ) → Names words m t → is_sure old t ≡ true → faults old < 2 ^ 64 - 1 → result ≢ ReadFault true
  clause_second_name m t names sure few e =
      let two : take read.count (names_read words) ≡ m ∷ t ∷ [] = ap₂ (λ (n : ℕ) (ns : List (List ℕ)). take n ns) (failed_nth 2 (ap reading_of e)) (named_read words m t names) in
      let still : faults new ≡ faults old =
      first_sure told is_sure reads faults old new (names_read words) (reading_of result) read (λ last is. subst (λ n. is_sure old n ≡ true) (same_last t last (sym (ap last_of two) ∙ is)) sure) in
      no_rise (faults old) (faults new) still few (read.first.rose (ap (λ o. is_unread (reading_of o)) e))

  pub clause_unread : (fault : UsageFault) → usage_fault words ≡ Some fault → new ≡ old
  clause_unread fault e = read.unread (ap (λ (x : Option UsageFault). names_unless x (words_left words)) e)

  pub clause_made_unread : asks_made words ≡ true → new ≡ old
  clause_made_unread asked = read.unread (asked_names words asked)

  pub clause_sure_names : (m t : List ℕ) → Names words m t → is_sure old m ≡ true → is_sure old t ≡ true → faults new ≡ faults old
  clause_sure_names m t names sure_m sure_t =
      first_all_sure told is_sure reads faults old new (names_read words) (reading_of result) read
      (ap (list_all (is_sure old)) (named_read words m t names) ∙ and_from _ _ sure_m (and_from _ _ sure_t refl))

  pub clause_files_quiet : (result ≡ ReadFault false) ⊎ ((result ≡ ReadFault true) ⊎ (faults new ≡ faults old))
  clause_files_quiet = quiet_of result read.first.quiet

  pub clause_files_later : faults old ≤ faults new
  clause_files_later = read.first.later

  pub clause_same_told : (n : List ℕ) → told new n ≡ told old n
  clause_same_told = read.first.same_told

  pub clause_same_sure : (n : List ℕ) → is_sure new n ≡ is_sure old n
  clause_same_sure = read.first.same_sure

-- ---- what the output gains, of `simulate` and of `simulate_bytes`

-- after every outcome but Done and WriteFault nothing changed
abbrev pub Untouched : {A : Type 0} → Outcome → A → A → Type 0
Untouched Done before now = Unit {0}
Untouched WriteFault before now = Unit {0}
Untouched (Usage f) before now = now ≡ before
Untouched (Model f) before now = now ≡ before
Untouched (Trace f) before now = now ≡ before
Untouched (Past f) before now = now ≡ before
Untouched (Over f) before now = now ≡ before
Untouched (ReadFault second) before now = now ≡ before
Untouched Memory before now = now ≡ before

module _ {O : Type 0} (taken : O → Option (List ℕ)) (sure faults : O → ℕ) (old new : O) where
  -- where the output's count of faults rose, and what stays, whatever the text is
  out_quiet : (P : List ℕ → Type 0) (o : Outcome) → Writes taken sure faults old new (writing_of o) P → (o ≡ WriteFault) ⊎ (faults new ≡ faults old)
  out_quiet P WriteFault w = inl refl
  out_quiet P Done w = inr w.quiet
  out_quiet P (Usage f) w = inr (ap faults w)
  out_quiet P (Model f) w = inr (ap faults w)
  out_quiet P (Trace f) w = inr (ap faults w)
  out_quiet P (Past f) w = inr (ap faults w)
  out_quiet P (Over f) w = inr (ap faults w)
  out_quiet P (ReadFault second) w = inr (ap faults w)
  out_quiet P Memory w = inr (ap faults w)

  untouched : (P : List ℕ → Type 0) (o : Outcome) → Writes taken sure faults old new (writing_of o) P → Untouched o old new
  untouched P WriteFault w = tt
  untouched P Done w = tt
  untouched P (Usage f) w = w
  untouched P (Model f) w = w
  untouched P (Trace f) w = w
  untouched P (Past f) w = w
  untouched P (Over f) w = w
  untouched P (ReadFault second) w = w
  untouched P Memory w = w

  -- where as many bytes are sure as the report has
  calm : (P : List ℕ → Type 0) (o : Outcome) (a : Answer) (text : List ℕ) → ((t : List ℕ) → P t → IsText t a) → a ≡ Reported text → length text ≤ sure old → Writes taken sure faults old new (writing_of o) P → faults new ≡ faults old
  calm P o a text is reported room w = writes_calm taken sure faults old new (writing_of o) P (λ t p. let same : t ≡ text = subst (IsText t) reported (is t p) in subst (λ x. length x ≤ sure old) (sym same) room) w

  module _ (result : Outcome) (P : List ℕ → Type 0) (w : Writes taken sure faults old new (writing_of result) P) where
    pub clause_out_later : faults old ≤ faults new
    clause_out_later = writes_later taken sure faults old new (writing_of result) P w

    pub clause_write : result ≡ WriteFault → Rose (faults old) (faults new)
    clause_write e = (subst (λ o. Writes taken sure faults old new (writing_of o) P) e w).rose

    pub clause_out_quiet : (result ≡ WriteFault) ⊎ (faults new ≡ faults old)
    clause_out_quiet = out_quiet P result w

    pub clause_untouched : Untouched result old new
    clause_untouched = untouched P result w

  -- of `simulate`
  module _ (told : List ℕ → Option (List ℕ)) (words : List (List ℕ)) (result : Outcome) (w : Writes taken sure faults old new (writing_of result) (IsReportOf told words)) where
    pub clause_sure : (m t model trace text : List ℕ) → Names words m t → told m ≡ Some model → told t ≡ Some trace → answer model trace (wanted_by words) ≡ Reported text → length text ≤ sure old → faults new ≡ faults old
    clause_sure m t model trace text names told_m told_t is room =
        calm (IsReportOf told words) result (answer model trace (wanted_by words)) text (λ x report. report.named m t model trace names told_m told_t) is room w

    pub clause_made_sure : (number : ℕ) (text : List ℕ) → Makes words number → answer (made_model number) (made_trace number) (wanted_by words) ≡ Reported text → length text ≤ sure old → faults new ≡ faults old
    clause_made_sure number text makes is room = calm (IsReportOf told words) result (answer (made_model number) (made_trace number) (wanted_by words)) text (λ x report. report.made number makes) is room w

  -- of `simulate_bytes`
  pub clause_bytes_sure : (a : Answer) (result : Outcome) → Writes taken sure faults old new (writing_of result) (λ text. IsText text a) → (text : List ℕ) → a ≡ Reported text → length text ≤ sure old → faults new ≡ faults old
  clause_bytes_sure a result w text is room = calm (λ t. IsText t a) result a text (λ t h. h) is room w

-- ---- the line on the error output

-- that of a made input speaks of no name
made_text : (name : List ℕ) (o : Outcome) → IsOfMade o → line_text name o ≡ line_text [] o
made_text name Done made = refl
made_text name WriteFault made = refl
made_text name Memory made = refl
made_text name _ made = elim made [ ]

module _ {E : Type 0} (taken : E → Option (List ℕ)) (sure faults : E → ℕ) (old new : E) (told : List ℕ → Option (List ℕ)) (words : List (List ℕ)) (result : Outcome) (accepted : (number : ℕ) → Makes words number → IsOfMade result)
    (line : (name : List ℕ) × PutsLine taken sure faults old new (line_text name result) × ((m t model : List ℕ) → Names words m t → told m ≡ Some model → name ≡ name_of (network_in model) result)) where
  pub clause_line : (name : List ℕ) × PutsLine taken sure faults old new (line_text name result)
  clause_line = (line.0, line.1)

  pub clause_named : (m t model : List ℕ) → Names words m t → told m ≡ Some model → PutsLine taken sure faults old new (line_text (name_of (network_in model) result) result)
  clause_named m t model names told_m = subst (λ name. PutsLine taken sure faults old new (line_text name result)) (line.2 m t model names told_m) line.1

  pub clause_made_line : (number : ℕ) → Makes words number → PutsLine taken sure faults old new (line_text [] result)
  clause_made_line number makes = subst (PutsLine taken sure faults old new) (made_text line.0 result (accepted number makes)) line.1
