-- The words of a line: which fault they have, and that those without one say an edit that is read.
use Rattle.std.proofs.Common.{◌≡◌, ◌∙◌, sym, ap, refl, ℕ, zero, suc, ◌+◌, ◌-◌, ◌<◌, ◌≤◌, ◌^◌, List, [], ◌∷◌, ◌++◌, length, length-drop, drop, get_or, map, take, true, false, Option, Some, None, arith, Bor, inl, inr, eq-eqb}
use Rattle.std.specs.Prelude.{All, IsTrue, codes, slice_get, ◌==◌, nat_lt}
use Rattle.std.specs.Option.{option_or}
use Rattle.std.specs.Str.Parse.{digits_value}
use Rattle.std.proofs.lemmas.Bool.{cases_Bool, eqb-true}
use Rattle.std.proofs.lemmas.Grind.{common_steps}
use Rattle.std.proofs.lemmas.List.{length-map}
use Rattle.std.proofs.lemmas.Slice.Eq.{bytes_eq-Decides}
use Rattle.mq_base.proofs.lemmas.Lists.{map-all, take-all}
use Rattle.mq_base.specs.Text.{is_number, number_of, texts, words_of}
use Rattle.mq_core.specs.Wiring.{is_source}
use Rattle.mq_core.specs.declared.model.Network.{Network}
use Rattle.mq_model.specs.Form.{Word}
use Rattle.mq_trace.specs.Trace.{source_named}
use Rattle.mq_trace.proofs.RowFacts.{named_at}
use Rattle.mq_edits.specs.Edited.{AreEditsFor, HasPlace, IsEditFor, rows_after}
use Rattle.mq_edits.specs.Edits.{add_fault, add_in, count_fault, edits_of_lines, edits_of_words, is_add, is_record, is_set, lines_fault, record_named, row_fault, rows_added, set_fault, set_in, source_in, time_in, value_fault, values_in, word_at, words_fault}
use Rattle.mq_edits.specs.declared.edit.Edit.{Edit}
use Rattle.mq_edits.specs.declared.fault.EditFault.{EditFault}
use Rattle.mq_edits.specs.declared.fault.EditFault.TheVariants.{BadNumber, UnknownSource}

-- Numbers.
pub no_number : (text : List ℕ) (limit : ℕ) → None ≡ number_of text limit → is_number text limit ≡ false
no_number text limit none = elim (cases_Bool (is_number text limit)) [
  | inl holds ↦ let made : number_of text limit ≡ Some (digits_value 10 text) = rw holds refl in absurd (cc)
  | inr fails ↦ fails
]

pub a_number : (text : List ℕ) (limit n : ℕ) → Some n ≡ number_of text limit → (is_number text limit ≡ true) × (n ≡ digits_value 10 text)
a_number text limit n some = elim (cases_Bool (is_number text limit)) [
  | inl holds ↦ let made : number_of text limit ≡ Some (digits_value 10 text) = rw holds refl in (holds, cc)
  | inr fails ↦ let made : number_of text limit ≡ None = rw fails refl in absurd (cc)
]

pub number_limit : (text : List ℕ) (limit : ℕ) → is_number text limit ≡ true → digits_value 10 text ≤ limit
number_limit text limit holds = grind (arith, common_steps, holds)

-- Words.
pub word_is : (words : List (Bor (List ℕ))) (i : ℕ) (d : Bor (List ℕ)) → i < length words → word_at (texts words) i ≡ (get_or words i d).now
word_is words i d less = grind (arith, common_steps)

drop_texts : (n : ℕ) (words : List (Bor (List ℕ))) → drop n (texts words) ≡ texts (drop n words)
drop_texts zero words = refl
drop_texts (suc n) [] = refl
drop_texts (suc n) (word ∷ words) = drop_texts n words

pub behind_first : (words : List (Bor (List ℕ))) (n : ℕ) → texts (take (length words - n) (drop n words)) ≡ drop n (texts words)
behind_first words n =
    let all : take (length words - n) (drop n words) ≡ drop n words = take-all (drop n words) (length words - n) (rw (length-drop n words) (omega arith)) in
    rw all (sym (drop_texts n words))

pub good_number : (words : List (Bor (List ℕ))) (i : ℕ) (d : Bor (List ℕ)) (limit n : ℕ) → i < length words → Some n ≡ number_of (get_or words i d).now limit → is_number (word_at (texts words) i) limit ≡ true
good_number words i d limit n less some = rw (word_is words i d less) (a_number (get_or words i d).now limit n some).0

pub long : (words : List (Bor (List ℕ))) → length (texts words) ≡ length words
long words = length-map words (λ (t : Bor (List ℕ)). t.now)

drop_word : (words : List Word) (i : ℕ) → i < length words → drop i words ≡ get_or words i [] ∷ drop (i + 1) words
drop_word words i less = grind (arith, common_steps)

-- Values.
pub value_more : (line number i : ℕ) (words : List Word) → i < length words → is_number (get_or words i []) (2 ^ 36) ≡ true
    → value_fault line (number + i) (drop i words) ≡ value_fault line (number + (i + 1)) (drop (i + 1) words)
unfolding value_fault
value_more line number i words less good = rw (drop_word words i less, good) (ap (λ n. value_fault line n (drop (i + 1) words)) (omega arith))

pub value_bad : (line number i : ℕ) (words : List Word) → i < length words → is_number (get_or words i []) (2 ^ 36) ≡ false
    → value_fault line (number + i) (drop i words) ≡ Some (BadNumber line (number + i))
unfolding value_fault
value_bad line number i words less bad = rw (drop_word words i less, bad) refl

pub value_end : (line number i : ℕ) (words : List Word) → length words ≤ i → value_fault line (number + i) (drop i words) ≡ None
unfolding value_fault
value_end line number i words over = let none : drop i words ≡ [] = grind (arith, common_steps) in rw none refl

pub value_taken : (words : List Word) (i v : ℕ) → i < length words → v ≡ digits_value 10 (get_or words i []) → map (digits_value 10) (take (i + 1) words) ≡ map (digits_value 10) (take i words) ++ v ∷ []
value_taken words i v less is = grind (arith, common_steps, is)

value_first : (line number : ℕ) (word : Word) (words : List Word) → value_fault line number (word ∷ words) ≡ None → (is_number word (2 ^ 36) ≡ true) × (value_fault line (number + 1) words ≡ None)
unfolding value_fault
value_first line number word words none = elim (cases_Bool (is_number word (2 ^ 36))) [
  | inl good ↦ (good, rw good at none)
  | inr bad ↦ let made = rw bad at none in absurd (cc)
]

-- The same of a word that is lent.
value_word : (words : List (Bor (List ℕ))) (i : ℕ) (d : Bor (List ℕ)) → i < length words → get_or (texts words) i [] ≡ (get_or words i d).now
value_word words i d less = word_is words i d less

pub value_bad_at : (line number i : ℕ) (words : List (Bor (List ℕ))) (d : Bor (List ℕ)) → i < length words → None ≡ number_of (get_or words i d).now (2 ^ 36)
    → value_fault line (number + i) (drop i (texts words)) ≡ Some (BadNumber line (number + i))
value_bad_at line number i words d less none =
    value_bad line number i (texts words) (rw (long words) less) (rw (value_word words i d less) (no_number (get_or words i d).now (2 ^ 36) none))

pub value_more_at : (line number i v : ℕ) (words : List (Bor (List ℕ))) (d : Bor (List ℕ)) → i < length words → Some v ≡ number_of (get_or words i d).now (2 ^ 36)
    → value_fault line (number + i) (drop i (texts words)) ≡ value_fault line (number + (i + 1)) (drop (i + 1) (texts words))
value_more_at line number i v words d less some =
    value_more line number i (texts words) (rw (long words) less) (rw (value_word words i d less) (a_number (get_or words i d).now (2 ^ 36) v some).0)

pub value_taken_at : (i v : ℕ) (words : List (Bor (List ℕ))) (d : Bor (List ℕ)) → i < length words → Some v ≡ number_of (get_or words i d).now (2 ^ 36)
    → map (digits_value 10) (take (i + 1) (texts words)) ≡ map (digits_value 10) (take i (texts words)) ++ v ∷ []
value_taken_at i v words d less some =
    value_taken (texts words) i v (rw (long words) less) (rw (value_word words i d less) (a_number (get_or words i d).now (2 ^ 36) v some).1)

pub value_end_at : (line number i : ℕ) (words : List (Bor (List ℕ))) → length words ≤ i → value_fault line (number + i) (drop i (texts words)) ≡ None
value_end_at line number i words over = value_end line number i (texts words) (rw (long words) over)

pub values_all : (i : ℕ) (words : List (Bor (List ℕ))) (values : List ℕ) → length words ≤ i → values ≡ map (digits_value 10) (take i (texts words)) → values ≡ map (digits_value 10) (texts words)
values_all i words values over is = map-all (digits_value 10) (texts words) i values (rw (long words) over) is

values_good : (line number : ℕ) (words : List Word) → value_fault line number words ≡ None → (k d : ℕ) → k < length (map (digits_value 10) words) → get_or (map (digits_value 10) words) k d ≤ 2 ^ 36
values_good line number [] none k d less = absurd (omega arith)
values_good line number (word ∷ words) none zero d less = number_limit word (2 ^ 36) (value_first line number word words none).0
values_good line number (word ∷ words) none (suc k) d less = values_good line (number + 1) words (value_first line number word words none).1 k d (omega arith)

-- A row.
pub row_unknown : (net : Network) (line number : ℕ) (words : List Word) → None ≡ source_named net (word_at words 0) → row_fault net line number words ≡ Some (UnknownSource line)
row_unknown net line number words none = rw (← none) refl

pub row_values : (net : Network) (line number s : ℕ) (words : List Word) → Some s ≡ source_named net (word_at words 0) → is_number (word_at words 1) (2 ^ 60) ≡ true
    → row_fault net line number words ≡ value_fault line (number + 2) (drop 2 words)
row_values net line number s words some good = rw (← some, good) refl

-- Behind `set` and `add`.
count_good : (line wanted count : ℕ) → count ≡ wanted → count_fault line wanted count ≡ None
count_good line wanted count same = rw (eq-eqb count wanted same) refl

pub set_row : (net : Network) (rows line row : ℕ) (words : List Word) → length words + 1 ≡ length net.columns + 4 → Some row ≡ record_named rows (word_at words 0)
    → (set_fault net rows line words ≡ row_fault net line 3 (drop 1 words)) × (row ≡ digits_value 10 (word_at words 0) - 1)
set_row net rows line row words count some = elim (cases_Bool (is_record rows (word_at words 0))) [
  | inl holds ↦
      let made : record_named rows (word_at words 0) ≡ Some (digits_value 10 (word_at words 0) - 1) = rw holds refl in
      (rw (count_good line (length net.columns + 4) (length words + 1) count, holds) refl, cc)
  | inr fails ↦ let made : record_named rows (word_at words 0) ≡ None = rw fails refl in absurd (cc)
]

-- Rows without a fault.
record IsGoodRow (net : Network) (words : List Word) : Type 0 where
  source : IsTrue (is_source (slice_get net.nodes (source_in net words)))
  early : time_in words ≤ 2 ^ 60
  small : All (λ value. value ≤ 2 ^ 36) (values_in words)

good_named : (net : Network) (line number : ℕ) (words : List Word) (o : Option ℕ) → source_named net (word_at words 0) ≡ o → row_fault net line number words ≡ None → IsGoodRow net words
good_named net line number words None is none = let made = row_unknown net line number words (sym is) in absurd (cc)
good_named net line number words (Some s) is none = elim (cases_Bool (is_number (word_at words 1) (2 ^ 60))) [
  | inl good ↦
      let values = sym (row_values net line number s words (sym is) good) ∙ none in
      record {
        source = rw is (named_at (word_at words 0) net.nodes s is);
        early = number_limit (word_at words 1) (2 ^ 60) good;
        small = values_good line (number + 2) (drop 2 words) values;
      }
  | inr bad ↦ let made : row_fault net line number words ≡ Some (BadNumber line (number + 1)) = rw (is, bad) refl in absurd (cc)
]

good_row : (net : Network) (line number : ℕ) (words : List Word) → row_fault net line number words ≡ None → IsGoodRow net words
good_row net line number words none = good_named net line number words (source_named net (word_at words 0)) refl none

each_value : (words : List Word) (columns : ℕ) → length words ≡ columns + 2 → length (values_in words) ≡ columns
each_value words columns long = length-map (drop 2 words) (digits_value 10) ∙ grind (arith, common_steps, long)

-- a count without a fault
count_is : (line wanted count : ℕ) → count_fault line wanted count ≡ None → count ≡ wanted
count_is line wanted count none = elim (cases_Bool (count == wanted)) [
  | inl same ↦ eqb-true count wanted same
  | inr other ↦ let made = rw other at none in absurd (cc)
]

-- the first of two faults is none
front_none : (a b : Option EditFault) → option_or a b ≡ None → (a ≡ None) × (b ≡ None)
front_none None b none = (refl, none)
front_none (Some e) b none = absurd (cc)

-- the edit that words without a fault say is read
set_read : (net : Network) (rows line : ℕ) (words : List Word) → set_fault net rows line words ≡ None → IsEditFor net rows (set_in net words)
set_read net rows line words none =
    let parts = front_none _ _ none in
    let count = count_is line (length net.columns + 4) (length words + 1) parts.0 in
    elim (cases_Bool (is_record rows (word_at words 0))) [
      | inl holds ↦
          let row = good_row net line 3 (drop 1 words) (rw holds at parts.1) in
          record {
            place = grind (arith, common_steps, holds);
            source = row.source;
            early = row.early;
            each = each_value (drop 1 words) (length net.columns) (grind (arith, common_steps, count));
            small = row.small;
          }
      | inr fails ↦ let made = rw fails at parts.1 in absurd (cc)
    ]

add_read : (net : Network) (rows line : ℕ) (words : List Word) → add_fault net rows line words ≡ None → IsEditFor net rows (add_in net words)
add_read net rows line words none =
    let parts = front_none _ _ none in
    let count = count_is line (length net.columns + 3) (length words + 1) parts.0 in
    elim (cases_Bool (nat_lt rows 1048576)) [
      | inl holds ↦
          let row = good_row net line 2 words (rw holds at parts.1) in
          record {
            place = grind (arith, common_steps, holds);
            source = row.source;
            early = row.early;
            each = each_value words (length net.columns) (grind (arith, common_steps, count));
            small = row.small;
          }
      | inr fails ↦ let made = rw fails at parts.1 in absurd (cc)
    ]

-- a word that is `set` isn't `add`
set_is_no_add : (word : Word) → is_set word ≡ true → is_add word ≡ false
set_is_no_add word holds = let same : word ≡ codes "set" = (bytes_eq-Decides word (codes "set")).0 holds in rw same refl

words_read : (net : Network) (rows line : ℕ) (words : List Word) (edits : List Edit) → words_fault net rows line words ≡ None → AreEditsFor net (rows + rows_added words) edits
    → AreEditsFor net rows (edits_of_words net words ++ edits)
unfolding AreEditsFor
words_read net rows line [] edits none more = let same : rows + 0 ≡ rows = omega arith in rw same at more
words_read net rows line (word ∷ words) edits none more = elim (cases_Bool (is_set word)) [
  | inl set ↦
      let other = set_is_no_add word set in
      let same : rows + 0 ≡ rows = omega arith in
      let rest = rw (other, same) at more in
      rw set (set_read net rows line words (rw set at none), rest)
  | inr unset ↦ elim (cases_Bool (is_add word)) [
    | inl add ↦
        let rest = rw add at more in
        rw unset (add_read net rows line words (rw (unset, add) at none), rest)
    | inr unknown ↦ let made = rw (unset, unknown) at none in absurd (cc)
  ]
]

-- the edits of lines without a fault are read
pub lines_read : (net : Network) (rows number : ℕ) (lines : List (List ℕ)) → lines_fault net rows number lines ≡ None → AreEditsFor net rows (edits_of_lines net lines)
unfolding lines_fault AreEditsFor
lines_read net rows number [] none = tt
lines_read net rows number (line ∷ lines) none =
    let parts = front_none _ _ none in
    words_read net rows number (words_of line) (edits_of_lines net lines) parts.0 (lines_read net (rows + rows_added (words_of line)) (number + 1) lines parts.1)

-- the edit that words say has its place
pub read_place : (net : Network) (rows line : ℕ) (words : List Word) (edit : Edit) → words_fault net rows line words ≡ None → edit ∷ [] ≡ edits_of_words net words
    → HasPlace rows edit × (rows_after rows edit ≡ rows + rows_added words)
read_place net rows line [] edit none is = absurd (cc)
read_place net rows line (word ∷ words) edit none is = elim (cases_Bool (is_set word)) [
  | inl set ↦
      let other = set_is_no_add word set in
      let e = set_read net rows line words (rw set at none) in
      let same : edit ≡ set_in net words = only _ _ (rw set at is) in
      let sum : rows ≡ rows + 0 = omega arith in
      rw (same, other) (e.place, sum)
  | inr unset ↦ elim (cases_Bool (is_add word)) [
    | inl add ↦
        let e = add_read net rows line words (rw (unset, add) at none) in
        let same : edit ≡ add_in net words = only _ _ (rw unset at is) in
        rw (same, add) (e.place, refl)
    | inr unknown ↦ let made = rw (unset, unknown) at none in absurd (cc)
  ]
]
  where
    only : (x y : Edit) → x ∷ [] ≡ y ∷ [] → x ≡ y
    only x y h = cc

-- what stands behind the first word of a line
words_split : (words : List (Bor (List ℕ))) (d : Bor (List ℕ)) → 1 ≤ length words → texts words ≡ (get_or words 0 d).now ∷ texts (take (length words - 1) (drop 1 words))
words_split [] d some = absurd (omega arith)
words_split (word ∷ words) d some =
    let all : take (length (word ∷ words) - 1) words ≡ words = take-all words (length (word ∷ words) - 1) (omega arith) in
    ap (λ ws. word.now ∷ texts ws) (sym all)

pub set_told : (net : Network) (rows line : ℕ) (words : List (Bor (List ℕ))) (d : Bor (List ℕ)) → 1 ≤ length words → is_set (get_or words 0 d).now ≡ true
    → words_fault net rows line (texts words) ≡ set_fault net rows line (texts (take (length words - 1) (drop 1 words)))
set_told net rows line words d some set = rw (words_split words d some, set) refl

pub add_told : (net : Network) (rows line : ℕ) (words : List (Bor (List ℕ))) (d : Bor (List ℕ)) → 1 ≤ length words → is_set (get_or words 0 d).now ≡ false → is_add (get_or words 0 d).now ≡ true
    → words_fault net rows line (texts words) ≡ add_fault net rows line (texts (take (length words - 1) (drop 1 words)))
add_told net rows line words d some unset add = rw (words_split words d some, unset, add) refl
