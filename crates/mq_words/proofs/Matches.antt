-- What clap's matches are, and that it refuses no words that pass the rule.
use Rattle.std.proofs.Common.{◌≡◌, ◌∙◌, ◌≤◌, ℕ, Bool, true, false, List, [], ◌∷◌, length, Option, Some, None, option_map, refl, sym, ap, arith, codes, true≢false, inl, inr}
use Rattle.std.specs.Prelude.{slice_get, nat_lt, option_and_then, if◌then◌else◌}
use Rattle.std.specs.List.{list_any}
use Rattle.std.proofs.lemmas.Bool.{cases_lt, lt-ltb}
use Rattle.clap.specs.Simple.{built, matches_of}
use Rattle.clap.specs.Takes.{takes}
use Rattle.clap.specs.Walk.{Held, Row, Text, first_of, finished, has_row, nothing_held, one_of, row_text, rows_of, walk, with_default, with_values}
use Rattle.clap.specs.declared.builder.value_parser.Reading.TheVariants.{AsWritten}
use Rattle.clap.specs.declared.parser.matches.Found.{Found}
use Rattle.clap.specs.declared.parser.matches.ValueSource.TheVariants.{DefaultValue}
use Rattle.clap.proofs.TakesLemmas.{leaf_takes}
use Rattle.clap.proofs.WalkLemmas.{first_value-rows, one_text-rows}
use Rattle.mq_words.specs.Matched.{Finds}
use Rattle.mq_words.specs.Words.{block_option, is_bad_word, jobs_asked, jobs_option, lacks_value, made_option, refuses_words, report_option, stands_twice, value_of, words_left, workers_option}
use Rattle.mq_words.proofs.FoundRows.{first_values, found, no_row, other_values, some_row}
use Rattle.mq_words.proofs.Walks.{app, block_built, jobs_built, made_built, report_built, rows_at, rules, trace_built, workers_built}
use Rattle.mq_words.proofs.Reading.{Given, Holds, both_true, flag_row, text_row}
use Rattle.mq_words.proofs.ReadWords.{Fits, Reads, neither, reads}

abbrev nothing : Given
nothing = record { workers = None; block = None; made = None; report = None; jobs = false; names = [] }

at_most : (n : ℕ) → nat_lt 2 n ≡ false → n ≤ 2
at_most n e = elim (cases_lt 2 n) [
  | inl more ↦ absurd (true≢false (sym (lt-ltb 2 n more) ∙ e))
  | inr most ↦ most
]

fits : (words : List Text) → refuses_words words ≡ false → Fits nothing words
fits words e =
    let p = neither _ (nat_lt 2 (length (words_left words))) e in
    let q = neither _ (lacks_value words) p.0 in
    let r = neither _ (stands_twice jobs_option words) q.0 in
    let o = neither _ (stands_twice report_option words) r.0 in
    let m = neither _ (stands_twice made_option words) o.0 in
    let s = neither _ (stands_twice block_option words) m.0 in
    let t = neither (list_any is_bad_word words) (stands_twice workers_option words) s.0 in
    let most : length (words_left words) ≤ 2 = at_most (length (words_left words)) p.1 in
    record { good = t.0; valued = q.1; workers = t.1; block = s.1; made = m.1; report = o.1; jobs = r.1; room = omega arith }

holds_nothing : Holds nothing nothing_held
holds_nothing = record { settles = refl; workers = refl; block = refl; made = refl; report = refl; jobs = refl; model = refl; trace = refl }

read : (words : List Text) → refuses_words words ≡ false → Reads 1 nothing words nothing_held
read words e = reads words 1 nothing nothing_held refl (fits words e) holds_nothing

abbrev end : List Text → Held
end words = (walk rules [] nothing_held words).held

-- the command takes the words
pub taken : (words : List Text) → refuses_words words ≡ false → takes app words ≡ true
taken words e =
    let r = read words e in
    leaf_takes (built app) nothing_held words refl (both_true _ _ r.passes (both_true _ _ r.held.settles refl))

-- ---- the defaults

keep : (b : Bool) (rows : List Row) → (if b then rows else rows) ≡ rows
keep true rows = refl
keep false rows = refl

finished_is : (h : Held) → finished rules h ≡ with_default (rows_at h) jobs_built
finished_is h =
    ap (λ rows. with_default (with_default (with_default (with_default (with_default (with_default rows trace_built) workers_built) block_built) made_built) report_built) jobs_built) (keep (has_row (codes "model") (rows_at h)) (rows_at h))
    ∙ (ap (λ rows. with_default (with_default (with_default (with_default (with_default rows workers_built) block_built) made_built) report_built) jobs_built) (keep (has_row (codes "trace") (rows_at h)) (rows_at h))
    ∙ (ap (λ rows. with_default (with_default (with_default (with_default rows block_built) made_built) report_built) jobs_built) (keep (has_row (codes "workers") (rows_at h)) (rows_at h))
    ∙ (ap (λ rows. with_default (with_default (with_default rows made_built) report_built) jobs_built) (keep (has_row (codes "block") (rows_at h)) (rows_at h))
    ∙ (ap (λ rows. with_default (with_default rows report_built) jobs_built) (keep (has_row (codes "made") (rows_at h)) (rows_at h))
    ∙ ap (λ rows. with_default rows jobs_built) (keep (has_row (codes "report") (rows_at h)) (rows_at h))))))

other_default : (b : Bool) (id : Text) (rows : List Row) → Rattle.std.specs.Str.bytes_eq (codes "jobs") id ≡ false
    → found id (if b then rows else with_values (codes "jobs") AsWritten DefaultValue (codes "false" ∷ []) rows) ≡ found id rows
other_default true id rows differs = refl
other_default false id rows differs = other_values (codes "jobs") id AsWritten DefaultValue (codes "false" ∷ []) rows differs

-- the text of the flag
jobs_text : (given : Bool) (rows : List Row) → found (codes "jobs") rows ≡ flag_row given
    → option_and_then row_text (found (codes "jobs") (with_default rows jobs_built)) ≡ Some (if given then codes "true" else codes "false")
jobs_text true rows e =
    ap (λ b. option_and_then row_text (found (codes "jobs") (if b then rows else with_values (codes "jobs") AsWritten DefaultValue (codes "false" ∷ []) rows))) (some_row (codes "jobs") _ rows e)
    ∙ ap (option_and_then row_text) e
jobs_text false rows e =
    ap (λ b. option_and_then row_text (found (codes "jobs") (if b then rows else with_values (codes "jobs") AsWritten DefaultValue (codes "false" ∷ []) rows))) (no_row (codes "jobs") rows e)
    ∙ ap (option_and_then row_text) (first_values (codes "jobs") AsWritten DefaultValue (codes "false" ∷ []) rows e)

-- the first text of an argument with one value
text_is : (id : Text) (given : Option Text) (rows : List Row) → Rattle.std.specs.Str.bytes_eq (codes "jobs") id ≡ false → found id rows ≡ option_map (text_row id) given
    → first_of id (with_default rows jobs_built) ≡ given
text_is id given rows differs e =
    ap (option_and_then (λ (r : Row). slice_get r.values 0)) (other_default (has_row (codes "jobs") rows) id rows differs ∙ e) ∙ go given
  where
    go : (o : Option Text) → option_and_then (λ (r : Row). slice_get r.values 0) (option_map (text_row id) o) ≡ o
    go None = refl
    go (Some text) = refl

-- ---- the matches

pub finds : (words : List Text) (f : Found) → refuses_words words ≡ false → rows_of f ≡ matches_of app words → Finds words f
finds words f e is =
    let r = (read words e).held in
    let rows = is ∙ finished_is (end words) in
    record {
      model = first_value-rows f (codes "model") ∙ (ap (first_of (codes "model")) rows ∙ text_is (codes "model") (slice_get (words_left words) 0) (rows_at (end words)) refl r.model);
      trace = first_value-rows f (codes "trace") ∙ (ap (first_of (codes "trace")) rows ∙ text_is (codes "trace") (slice_get (words_left words) 1) (rows_at (end words)) refl r.trace);
      workers = first_value-rows f (codes "workers") ∙ (ap (first_of (codes "workers")) rows ∙ text_is (codes "workers") (value_of workers_option words) (rows_at (end words)) refl r.workers);
      block = first_value-rows f (codes "block") ∙ (ap (first_of (codes "block")) rows ∙ text_is (codes "block") (value_of block_option words) (rows_at (end words)) refl r.block);
      made = first_value-rows f (codes "made") ∙ (ap (first_of (codes "made")) rows ∙ text_is (codes "made") (value_of made_option words) (rows_at (end words)) refl r.made);
      report = first_value-rows f (codes "report") ∙ (ap (first_of (codes "report")) rows ∙ text_is (codes "report") (value_of report_option words) (rows_at (end words)) refl r.report);
      jobs = one_text-rows f (codes "jobs") ∙ (ap (one_of (codes "jobs")) rows ∙ jobs_text (jobs_asked words) (rows_at (end words)) r.jobs);
    }
