-- The files of the words, of which some may be too long.
use Rattle.std.proofs.Common.{◌≡◌, ◌∙◌, ℕ, zero, suc, ◌+◌, ◌-◌, ◌<◌, ◌≤◌, Bool, true, false, cond, List, [], ◌∷◌, ◌++◌, length, map, take, get_or, Option, Some, None, ap, sym, refl, subst, arith, nat_lt, below_more, le-ltb, lt-ltb, true≢false, Result, Ok, Err, OnOk, is_err}
use Rattle.std.proofs.lemmas.List.{get_or-map, length-map, same_lists, get_or_default, get_or_push, get_or_append_left, take_more}
use Rattle.std.specs.Borrow.{Bor}
use Rattle.mq_base.specs.Text.{texts}
use Rattle.mq_outside.specs.Reading.{IsReadCount, ReadsFirst, ReadsNames, Reading, is_unread}
use Rattle.mq_outside.specs.Writing.{Writes}
use Rattle.mq_outside.specs.Writing.Writing.{Nothing}
use Rattle.mq_outside.proofs.lemmas.Readings.{reads_both}
use Rattle.std.specs.Prelude.{IfSome, unwrap_or}
use Rattle.mq_sweep.specs.Sweep.{AreFiles, all_done, answer_unless, first_long, limit_of, names_read, refuses_words, sweep_answer, sweep_text, swept, told_of_word}
use Rattle.mq_sweep.specs.Sweep.SweepAnswer.{Swept}
use Rattle.mq_sweep.specs.Ends.{AreRead, AreShort, IsLong, IsOfRun, ReadsUpTo, RefusesRead, RefusesReading, SweepEnds, reading_of, writing_of}
use Rattle.mq_sweep.specs.declared.outcome.SweepOutcome.{SweepOutcome}
use Rattle.mq_sweep.specs.declared.outcome.SweepOutcome.TheVariants.{Done, Refused, TooLong, ReadFault, WriteFault, Memory}
use Rattle.mq_top.specs.Ends.{Taken}

-- ---- the first file that is too long

-- the first files, from this word on, are short enough
abbrev Within : ℕ → ℕ → List (List ℕ) → Type 0
Within count word files = (i : ℕ) → i < count → length (get_or files i []) ≤ limit_of (word + i)

within_rest : (count word : ℕ) (bytes : List ℕ) (files : List (List ℕ)) → Within (count + 1) word (bytes ∷ files) → Within count (word + 1) files
within_rest count word bytes files w i less =
    let same : word + suc i ≡ word + 1 + i = omega arith in
    subst (λ (n : ℕ). length (get_or files i []) ≤ limit_of n) same (w (suc i) (omega arith))

within_first : (count word : ℕ) (bytes : List ℕ) (files : List (List ℕ)) → Within (count + 1) word (bytes ∷ files) → nat_lt (limit_of word) (length bytes) ≡ false
within_first count word bytes files w =
    let same : word + 0 ≡ word = omega arith in
    let short : length bytes ≤ limit_of word = subst (λ (n : ℕ). length bytes ≤ limit_of n) same (w 0 (omega arith)) in
    le-ltb (limit_of word) (length bytes) short

pub none_long : (word : ℕ) (files : List (List ℕ)) → Within (length files) word files → first_long word files ≡ None
none_long word [] w = refl
none_long word (bytes ∷ files) w =
    let w' : Within (length files + 1) word (bytes ∷ files) = λ i less. w i (omega arith) in
    rw (within_first (length files) word bytes files w') (none_long (word + 1) files (within_rest (length files) word bytes files w'))

pub one_long : (word at : ℕ) (files : List (List ℕ)) → at < length files → Within at word files → limit_of (word + at) < length (get_or files at []) → first_long word files ≡ Some (word + at)
one_long word at [] less w long = absurd (omega arith)
one_long word zero (bytes ∷ files) less w long =
    let same : word + 0 ≡ word = omega arith in
    let here : nat_lt (limit_of word) (length bytes) ≡ true = lt-ltb (limit_of word) (length bytes) (subst (λ (n : ℕ). limit_of n < length bytes) same long) in
    rw here (ap Some (sym same))
one_long word (suc at) (bytes ∷ files) less w long =
    let w' : Within (at + 1) word (bytes ∷ files) = λ i h. w i (omega arith) in
    let same : word + suc at ≡ word + 1 + at = omega arith in
    rw (within_first at word bytes files w')
    (one_long (word + 1) at files (omega arith) (within_rest at word bytes files w') (subst (λ (n : ℕ). limit_of n < length (get_or files at [])) same long) ∙ ap Some (sym same))

-- a first file that is too long isn't among those that are short enough
later : (word found : ℕ) (files : List (List ℕ)) (b : Bool) → (first_long (word + 1) files ≡ Some found → word + 1 + 0 ≤ found) → cond b (Some word) (first_long (word + 1) files) ≡ Some found → word + 0 ≤ found
later word found files true rest is = let same : word ≡ found = ap (λ (o : Option ℕ). unwrap_or o 0) is in omega arith
later word found files false rest is = let h = rest is in omega arith

pub behind : (word count found : ℕ) (files : List (List ℕ)) → Within count word files → first_long word files ≡ Some found → word + count ≤ found
behind word count found [] w e = absurd (cc e)
behind word zero found (bytes ∷ files) w e = later word found files (nat_lt (limit_of word) (length bytes)) (λ is. behind (word + 1) 0 found files (λ i less. absurd (omega arith)) is) e
behind word (suc count) found (bytes ∷ files) w e =
    let w' : Within (count + 1) word (bytes ∷ files) = λ i h. w i (omega arith) in
    let h = behind (word + 1) count found files (within_rest count word bytes files w') (rw (within_first count word bytes files w') at e) in
    omega arith

-- ---- what is told and what was read

module _ (told : List (Option (List ℕ))) (files : List (List ℕ)) (are : AreFiles told files) where
  pub told_long : length told ≡ length files
  told_long = ap length are ∙ length-map files Some

  pub told_is : (i : ℕ) → i < length files → get_or told i None ≡ Some (get_or files i [])
  told_is i less = ap (λ (l : List (Option (List ℕ))). get_or l i None) are ∙ get_or-map Some files i [] None less

  -- all that was read is all that is told
  pub read_is : (read : List (List ℕ)) → length read ≡ length files → AreRead (length files) told read → read ≡ files
  read_is read len is =
      same_lists read files len
      (λ k d less.
      let inside : k < length files = omega arith in
      get_or_default read k d [] less ∙ (is k (get_or files k []) inside (told_is k inside) ∙ get_or_default files k [] d inside))

  pub within : (count : ℕ) → count ≤ length files → AreShort count told → Within count 1 files
  within count most short i less =
      let same : i + 1 ≡ 1 + i = omega arith in
      subst (λ (n : ℕ). length (get_or files i []) ≤ limit_of n) same (short i (get_or files i []) less (told_is i (omega arith)))

-- ---- one file more

-- what is told of the word at an index
pub at_word : (told : List ℕ → Option (List ℕ)) (words : List (Bor (List ℕ))) (i : ℕ) (d : Bor (List ℕ)) → i < length words → get_or (map told (texts words)) i None ≡ told (get_or words i d).now
at_word told words i d less =
    let inside : i < length (texts words) = omega (arith, length-map words (λ (t : Bor (List ℕ)). t.now)) in
    get_or-map told (texts words) i d.now None inside ∙ ap told (get_or-map (λ (t : Bor (List ℕ)). t.now) words i d d.now less)

-- what was read of a file that is told
abbrev pub IsRead : ℕ → Option (List ℕ) → List ℕ → Type 0
IsRead word told bytes = IfSome told (λ b. (bytes ≡ b) × (length b ≤ limit_of word))

read_here : (word : ℕ) (told : Option (List ℕ)) (bytes b : List ℕ) → IsRead word told bytes → told ≡ Some b → (bytes ≡ b) × (length b ≤ limit_of word)
read_here word told bytes b is e = subst (λ (o : Option (List ℕ)). IsRead word o bytes) e is

pub short_more : (count : ℕ) (told : List (Option (List ℕ))) (bytes : List ℕ) → AreShort count told → IsRead (count + 1) (get_or told count None) bytes → AreShort (count + 1) told
short_more count told bytes short is i b less e =
    below_more (λ (k : ℕ). (b : List ℕ) → get_or told k None ≡ Some b → length b ≤ limit_of (k + 1)) count (λ k l b e. short k b l e)
    (λ b e. (read_here (count + 1) (get_or told count None) bytes b is e).1) i less b e

pub read_more : (count : ℕ) (told : List (Option (List ℕ))) (files : List (List ℕ)) (bytes : List ℕ) → length files ≡ count → AreRead count told files → IsRead (count + 1) (get_or told count None) bytes
    → AreRead (count + 1) told (files ++ bytes ∷ [])
read_more count told files bytes len read is i b less e =
    below_more (λ (k : ℕ). (b : List ℕ) → get_or told k None ≡ Some b → get_or (files ++ bytes ∷ []) k [] ≡ b) count
    (λ k l b e. get_or_append_left files (bytes ∷ []) [] k (omega arith) ∙ read k b l e)
    (λ b e. get_or_push files bytes [] count len ∙ (read_here (count + 1) (get_or told count None) bytes b is e).0) i less b e

-- a word that is reached
reached : (words index : ℕ) (told : List (Option (List ℕ))) → index < words → AreShort index told → ReadsUpTo words (index + 1) told
reached words index told less short = let same : index ≡ index + 1 - 1 = omega arith in record { some = omega arith; most = omega arith; short = subst (λ (n : ℕ). AreShort n told) same short }

pub refused_here : (words index : ℕ) (told : List (Option (List ℕ))) (o : SweepOutcome) → index < words → AreShort index told → RefusesRead (index + 1) (get_or told index None) o → RefusesReading words told o
refused_here words index told (TooLong w) less short r =
    let same : index ≡ index + 1 - 1 = omega arith in
    let long : IsLong (index + 1) (told_of_word told (index + 1)) = subst (λ (n : ℕ). IsLong (index + 1) (get_or told n None)) same r.1 in
    subst (λ (n : ℕ). ReadsUpTo words n told × IsLong n (told_of_word told n)) (sym r.0) (reached words index told less short, long)
refused_here words index told (ReadFault w) less short r = subst (λ (n : ℕ). ReadsUpTo words n told) (sym r) (reached words index told less short)
refused_here words index told Memory less short r = tt
refused_here words index told _ less short r = elim r [ ]

-- so many words were read by a refusal of this one
pub refused_count : (words index : ℕ) (told : Option (List ℕ)) (o : SweepOutcome) → index < words → RefusesRead (index + 1) told o → IsReadCount (reading_of o) words (index + 1)
refused_count words index told (TooLong w) less r = let same = r.0 in (sym same, omega arith, omega arith)
refused_count words index told (ReadFault w) less r = (sym r, omega (arith, r), omega (arith, r))
refused_count words index told Memory less r = omega arith
refused_count words index told _ less r = elim r [ ]

module _ {F : Type 0} (told : F → List ℕ → Option (List ℕ)) (is_sure : F → List ℕ → Bool) (reads faults : F → ℕ) (a b c : F) where
  -- the next word was read too
  pub next_read : (words : List (Bor (List ℕ))) (i : ℕ) (d : Bor (List ℕ)) (failed : Bool) → i < length words → ReadsNames told is_sure reads faults a b (take i (texts words)) false
      → ReadsNames told is_sure reads faults b c ((get_or words i d).now ∷ []) failed → ReadsNames told is_sure reads faults a c (take (i + 1) (texts words)) failed
  next_read words i d failed less h k =
      let inside : i < length (texts words) = omega (arith, length-map words (λ (t : Bor (List ℕ)). t.now)) in
      let here : get_or (texts words) i d.now ≡ (get_or words i d).now = get_or-map (λ (t : Bor (List ℕ)). t.now) words i d d.now less in
      let all : take i (texts words) ++ (get_or words i d).now ∷ [] ≡ take (i + 1) (texts words) = sym (take_more (texts words) i d.now inside ∙ ap (λ name. take i (texts words) ++ name ∷ []) here) in
      subst (λ names. ReadsNames told is_sure reads faults a c names failed) all (reads_both told is_sure reads faults a b c (take i (texts words)) (get_or words i d).now [] failed h k)

-- words that aren't refused are two at least
pub two_words : (words : List (List ℕ)) → refuses_words words ≡ false → 2 ≤ length words
two_words [] fine = absurd (true≢false fine)
two_words (a ∷ []) fine = absurd (true≢false fine)
two_words (a ∷ b ∷ words) fine = omega arith

pub words_read : (words : List (List ℕ)) → refuses_words words ≡ false → names_read words ≡ words
words_read words fine = rw fine refl

pub none_read : (words : List (List ℕ)) → refuses_words words ≡ true → names_read words ≡ []
none_read words refused = rw refused refl

-- the words were read so far
pub reads_words : {F : Type 0} (told : F → List ℕ → Option (List ℕ)) (is_sure : F → List ℕ → Bool) (reads faults : F → ℕ) (a b : F) (words : List (List ℕ)) (reading : Reading) (n : ℕ) → refuses_words words ≡ false
    → IsReadCount reading (length words) n → ReadsNames told is_sure reads faults a b (take n words) (is_unread reading) → ReadsFirst told is_sure reads faults a b (names_read words) reading
reads_words told is_sure reads faults a b words reading n fine at h =
    let all : words ≡ names_read words = sym (words_read words fine) in
    record {
      count = n;
      is_count = subst (λ ns. IsReadCount reading (length ns) n) all at;
      first = subst (λ ns. ReadsNames told is_sure reads faults a b (take n ns) (is_unread reading)) all h;
      unread = λ none. let two : 2 ≤ length words = two_words words fine in let zero : length words ≡ 0 = ap length (all ∙ none) in absurd (omega arith);
    }

-- all were read by a sweep that ends behind them
pub run_count : (o : SweepOutcome) (words n : ℕ) → IsOfRun o → n ≡ words → IsReadCount (reading_of o) words n
run_count Done words n late all = all
run_count Refused words n late all = all
run_count WriteFault words n late all = all
run_count Memory words n late all = omega (arith, all)
run_count _ words n late all = elim late [ ]

pub run_unread : (o : SweepOutcome) → IsOfRun o → is_unread (reading_of o) ≡ false
run_unread Done late = refl
run_unread Refused late = refl
run_unread WriteFault late = refl
run_unread Memory late = refl
run_unread _ late = elim late [ ]

pub writes_nothing : {S : Type 0} (taken : S → Option (List ℕ)) (sure faults : S → ℕ) (out : S) (o : SweepOutcome) (P : List ℕ → Type 0) → writing_of o ≡ Nothing → Writes taken sure faults out out (writing_of o) P
writes_nothing taken sure faults out o P none = subst (λ w. Writes taken sure faults out out w P) (sym none) refl

pub reading_unwritten : (words : ℕ) (told : List (Option (List ℕ))) (o : SweepOutcome) → RefusesReading words told o → writing_of o ≡ Nothing
reading_unwritten words told (TooLong w) r = refl
reading_unwritten words told (ReadFault w) r = refl
reading_unwritten words told Memory r = refl
reading_unwritten words told _ r = elim r [ ]

-- ---- how a sweep ends

pub from_ok : {T E P : Type 0} (r : Result T E) → is_err r ≡ false → OnOk r P → P
from_ok (Ok x) e h = h
from_ok (Err d) e h = absurd (true≢false e)

-- where all files are told, and each was read, the answer is that of what was read
pub answer_read : (told : List (Option (List ℕ))) (files read : List (List ℕ)) (count : ℕ) → AreFiles told files → length told ≡ count → length read ≡ count → AreRead count told read → AreShort count told
    → sweep_answer files ≡ swept read
answer_read told files read count are long len is short =
    let all : length files ≡ count = sym (told_long told files are) ∙ long in
    let none : first_long 1 files ≡ None = none_long 1 files (within told files are (length files) (omega arith) (subst (λ (n : ℕ). AreShort n told) (sym all) short)) in
    let same : read ≡ files = read_is told files are read (len ∙ sym all) (subst (λ (n : ℕ). AreRead n told read) (sym all) is) in
    ap (λ (o : Option ℕ). answer_unless o files) none ∙ ap swept (sym same)

unread_ends : (w : ℕ) (text : List ℕ) (done : Bool) (t : Taken) → SweepEnds (Swept text done) (ReadFault w) t
unread_ends w text true t = tt
unread_ends w text false t = tt

memory_ends : (text : List ℕ) (done : Bool) (t : Taken) → SweepEnds (Swept text done) Memory t
memory_ends text true t = tt
memory_ends text false t = tt

unread_at : (w : ℕ) (files : List (List ℕ)) (t : Taken) (o : Option ℕ) → ((found : ℕ) → o ≡ Some found → w ≤ found) → SweepEnds (answer_unless o files) (ReadFault w) t
unread_at w files t (Some found) late = late found refl
unread_at w [] t None late = unread_ends w [] true t
unread_at w (trace ∷ models) t None late = unread_ends w (sweep_text trace models) (all_done trace models) t

memory_at : (files : List (List ℕ)) (t : Taken) (o : Option ℕ) → SweepEnds (answer_unless o files) Memory t
memory_at files t (Some found) = tt
memory_at [] t None = memory_ends [] true t
memory_at (trace ∷ models) t None = memory_ends (sweep_text trace models) (all_done trace models) t

-- a refusal of the reading ends the sweep as the answer has it
pub refused_ends : (words : ℕ) (told : List (Option (List ℕ))) (files : List (List ℕ)) (o : SweepOutcome) (t : Taken) → AreFiles told files → length told ≡ words → RefusesReading words told o → SweepEnds (sweep_answer files) o t
refused_ends words told files (TooLong w) t are long r =
    let some = r.0.some in
    let most = r.0.most in
    let all : length files ≡ words = sym (told_long told files are) ∙ long in
    let inside : w - 1 < length files = omega arith in
    let same : 1 + (w - 1) ≡ w = omega arith in
    let longer : limit_of w < length (get_or files (w - 1) []) = subst (λ (x : Option (List ℕ)). IsLong w x) (told_is told files are (w - 1) inside) r.1 in
    let first : first_long 1 files ≡ Some w =
    one_long 1 (w - 1) files inside (within told files are (w - 1) (omega arith) r.0.short) (subst (λ (n : ℕ). limit_of n < length (get_or files (w - 1) [])) (sym same) longer) ∙ ap Some same in
    subst (λ (x : Option ℕ). SweepEnds (answer_unless x files) (TooLong w) t) (sym first) refl
refused_ends words told files (ReadFault w) t are long r =
    let some = r.some in
    let most = r.most in
    let all : length files ≡ words = sym (told_long told files are) ∙ long in
    unread_at w files t (first_long 1 files) (λ found e. let h = behind 1 (w - 1) found files (within told files are (w - 1) (omega arith) r.short) e in omega arith)
refused_ends words told files Memory t are long r = memory_at files t (first_long 1 files)
refused_ends words told files _ t are long r = elim r [ ]
