-- What clap's walk has found after words that pass the rule is what the definitions say of them.
use Rattle.std.proofs.Common.{◌≡◌, ◌∙◌, ◌&&◌, ◌||◌, ℕ, Bool, true, false, not, List, [], ◌∷◌, ◌++◌, Option, Some, None, option_map, refl, ap, codes}
use Rattle.std.specs.Prelude.{bytes_eq, slice_get, option_and_then, if◌then◌else◌}
use Rattle.std.specs.Option.{option_map_or}
use Rattle.clap.specs.Lexer.{long_of, long_of_rest, short_of_rest, strip_byte}
use Rattle.clap.specs.Simple.{Shape, built}
use Rattle.clap.specs.Walk.{Held, Row, Text, Step, Walk, has_row, idle, is_pending, option, walked, with_values, without}
use Rattle.clap.specs.Takes.{bundle_passes, flag_word_passes, settle_passes, step_passes, turn_passes}
use Rattle.clap.specs.declared.builder.value_parser.Reading.TheVariants.{AsWritten}
use Rattle.clap.specs.declared.parser.matches.ValueSource.TheVariants.{CommandLine}
use Rattle.mq_base.specs.Text.{begins_with_dash}
use Rattle.mq_words.specs.Words.{block_option, has_word, jobs_option, made_option, report_option, value_of, words_left, workers_option}
use Rattle.mq_words.proofs.FoundRows.{first_use, found, no_row, other_use, row_with}
use Rattle.mq_words.proofs.Walks.{app, at, jobs_built, model_built, no_dash, no_dashes, pends, plain, waits, rows_at, rules, trace_built}

-- ---- what was given so far

pub record Given : Type 0 where
  pub workers : Option Text
  pub block : Option Text
  pub made : Option Text
  pub report : Option Text
  pub jobs : Bool
  pub names : List Text

abbrev pub or_given : Option Text → Option Text → Option Text
or_given None later = later
or_given (Some text) later = Some text

-- what is given after more words
abbrev pub told : Given → List Text → Given
told g words =
    record {
      workers = or_given g.workers (value_of workers_option words);
      block = or_given g.block (value_of block_option words);
      made = or_given g.made (value_of made_option words);
      report = or_given g.report (value_of report_option words);
      jobs = g.jobs || has_word jobs_option words;
      names = g.names ++ words_left words;
    }

abbrev pub text_row : Text → Text → Row
text_row id text = row_with id AsWritten CommandLine (text ∷ [])

abbrev pub flag_row : Bool → Option Row
flag_row b = if b then Some (text_row (codes "jobs") (codes "true")) else None

-- the walk holds what was given, and what is pending may be used
pub record Holds (g : Given) (h : Held) : Type 0 where
  pub settles : settle_passes rules false h ≡ true
  pub workers : found (codes "workers") (rows_at h) ≡ option_map (text_row (codes "workers")) g.workers
  pub block : found (codes "block") (rows_at h) ≡ option_map (text_row (codes "block")) g.block
  pub made : found (codes "made") (rows_at h) ≡ option_map (text_row (codes "made")) g.made
  pub report : found (codes "report") (rows_at h) ≡ option_map (text_row (codes "report")) g.report
  pub jobs : found (codes "jobs") (rows_at h) ≡ flag_row g.jobs
  pub model : found (codes "model") (rows_at h) ≡ option_map (text_row (codes "model")) (slice_get g.names 0)
  pub trace : found (codes "trace") (rows_at h) ≡ option_map (text_row (codes "trace")) (slice_get g.names 1)

-- ---- one use

-- the first use of an argument passes
value_passes : (id : Text) (rows : List Row) → found id rows ≡ None → ((not (has_row id rows) || false) && true) ≡ true
value_passes id rows e = ap (λ b. (not b || false) && true) (no_row id rows e)

other_option : (id other text : Text) (rows : List Row) → bytes_eq id other ≡ false → found other (with_values id AsWritten CommandLine (text ∷ []) (without id rows)) ≡ found other rows
other_option id other text rows differs = other_use id other AsWritten CommandLine (text ∷ []) rows differs

pub holds_workers : (g : Given) (h : Held) (v : Text) → Holds g h → g.workers ≡ None → Holds (record g { workers = Some v }) (pends (codes "workers") v h)
holds_workers g h v was none =
    let free : found (codes "workers") (rows_at h) ≡ None = was.workers ∙ ap (option_map (text_row (codes "workers"))) none in
    record {
      settles = value_passes (codes "workers") (rows_at h) free;
      workers = first_use (codes "workers") AsWritten CommandLine (v ∷ []) (rows_at h) free;
      block = other_option (codes "workers") (codes "block") v (rows_at h) refl ∙ was.block;
      made = other_option (codes "workers") (codes "made") v (rows_at h) refl ∙ was.made;
      report = other_option (codes "workers") (codes "report") v (rows_at h) refl ∙ was.report;
      jobs = other_option (codes "workers") (codes "jobs") v (rows_at h) refl ∙ was.jobs;
      model = other_option (codes "workers") (codes "model") v (rows_at h) refl ∙ was.model;
      trace = other_option (codes "workers") (codes "trace") v (rows_at h) refl ∙ was.trace;
    }

pub holds_block : (g : Given) (h : Held) (v : Text) → Holds g h → g.block ≡ None → Holds (record g { block = Some v }) (pends (codes "block") v h)
holds_block g h v was none =
    let free : found (codes "block") (rows_at h) ≡ None = was.block ∙ ap (option_map (text_row (codes "block"))) none in
    record {
      settles = value_passes (codes "block") (rows_at h) free;
      workers = other_option (codes "block") (codes "workers") v (rows_at h) refl ∙ was.workers;
      block = first_use (codes "block") AsWritten CommandLine (v ∷ []) (rows_at h) free;
      made = other_option (codes "block") (codes "made") v (rows_at h) refl ∙ was.made;
      report = other_option (codes "block") (codes "report") v (rows_at h) refl ∙ was.report;
      jobs = other_option (codes "block") (codes "jobs") v (rows_at h) refl ∙ was.jobs;
      model = other_option (codes "block") (codes "model") v (rows_at h) refl ∙ was.model;
      trace = other_option (codes "block") (codes "trace") v (rows_at h) refl ∙ was.trace;
    }

pub holds_made : (g : Given) (h : Held) (v : Text) → Holds g h → g.made ≡ None → Holds (record g { made = Some v }) (pends (codes "made") v h)
holds_made g h v was none =
    let free : found (codes "made") (rows_at h) ≡ None = was.made ∙ ap (option_map (text_row (codes "made"))) none in
    record {
      settles = value_passes (codes "made") (rows_at h) free;
      workers = other_option (codes "made") (codes "workers") v (rows_at h) refl ∙ was.workers;
      block = other_option (codes "made") (codes "block") v (rows_at h) refl ∙ was.block;
      made = first_use (codes "made") AsWritten CommandLine (v ∷ []) (rows_at h) free;
      report = other_option (codes "made") (codes "report") v (rows_at h) refl ∙ was.report;
      jobs = other_option (codes "made") (codes "jobs") v (rows_at h) refl ∙ was.jobs;
      model = other_option (codes "made") (codes "model") v (rows_at h) refl ∙ was.model;
      trace = other_option (codes "made") (codes "trace") v (rows_at h) refl ∙ was.trace;
    }

pub holds_report : (g : Given) (h : Held) (v : Text) → Holds g h → g.report ≡ None → Holds (record g { report = Some v }) (pends (codes "report") v h)
holds_report g h v was none =
    let free : found (codes "report") (rows_at h) ≡ None = was.report ∙ ap (option_map (text_row (codes "report"))) none in
    record {
      settles = value_passes (codes "report") (rows_at h) free;
      workers = other_option (codes "report") (codes "workers") v (rows_at h) refl ∙ was.workers;
      block = other_option (codes "report") (codes "block") v (rows_at h) refl ∙ was.block;
      made = other_option (codes "report") (codes "made") v (rows_at h) refl ∙ was.made;
      report = first_use (codes "report") AsWritten CommandLine (v ∷ []) (rows_at h) free;
      jobs = other_option (codes "report") (codes "jobs") v (rows_at h) refl ∙ was.jobs;
      model = other_option (codes "report") (codes "model") v (rows_at h) refl ∙ was.model;
      trace = other_option (codes "report") (codes "trace") v (rows_at h) refl ∙ was.trace;
    }

abbrev pub after_jobs : Held → Held
after_jobs h = Rattle.clap.specs.Walk.reacted rules jobs_built [] h

pub holds_jobs : (g : Given) (h : Held) → Holds g h → g.jobs ≡ false → Holds (record g { jobs = true }) (after_jobs h)
holds_jobs g h was none =
    let free : found (codes "jobs") (rows_at h) ≡ None = was.jobs ∙ ap flag_row none in
    record {
      settles = refl;
      workers = other_option (codes "jobs") (codes "workers") (codes "true") (rows_at h) refl ∙ was.workers;
      block = other_option (codes "jobs") (codes "block") (codes "true") (rows_at h) refl ∙ was.block;
      made = other_option (codes "jobs") (codes "made") (codes "true") (rows_at h) refl ∙ was.made;
      report = other_option (codes "jobs") (codes "report") (codes "true") (rows_at h) refl ∙ was.report;
      jobs = first_use (codes "jobs") AsWritten CommandLine (codes "true" ∷ []) (rows_at h) free;
      model = other_option (codes "jobs") (codes "model") (codes "true") (rows_at h) refl ∙ was.model;
      trace = other_option (codes "jobs") (codes "trace") (codes "true") (rows_at h) refl ∙ was.trace;
    }

pub holds_model : (g : Given) (h : Held) (v : Text) → Holds g h → g.names ≡ [] → Holds (record g { names = v ∷ [] }) (pends (codes "model") v h)
holds_model g h v was none =
    let free : found (codes "model") (rows_at h) ≡ None = was.model ∙ ap (λ names. option_map (text_row (codes "model")) (slice_get names 0)) none in
    record {
      settles = value_passes (codes "model") (rows_at h) free;
      workers = other_option (codes "model") (codes "workers") v (rows_at h) refl ∙ was.workers;
      block = other_option (codes "model") (codes "block") v (rows_at h) refl ∙ was.block;
      made = other_option (codes "model") (codes "made") v (rows_at h) refl ∙ was.made;
      report = other_option (codes "model") (codes "report") v (rows_at h) refl ∙ was.report;
      jobs = other_option (codes "model") (codes "jobs") v (rows_at h) refl ∙ was.jobs;
      model = first_use (codes "model") AsWritten CommandLine (v ∷ []) (rows_at h) free;
      trace = other_option (codes "model") (codes "trace") v (rows_at h) refl
          ∙ (was.trace ∙ ap (λ names. option_map (text_row (codes "trace")) (slice_get names 1)) none);
    }

pub holds_trace : (g : Given) (h : Held) (m v : Text) → Holds g h → g.names ≡ m ∷ [] → Holds (record g { names = m ∷ v ∷ [] }) (pends (codes "trace") v h)
holds_trace g h m v was one =
    let free : found (codes "trace") (rows_at h) ≡ None = was.trace ∙ ap (λ names. option_map (text_row (codes "trace")) (slice_get names 1)) one in
    record {
      settles = value_passes (codes "trace") (rows_at h) free;
      workers = other_option (codes "trace") (codes "workers") v (rows_at h) refl ∙ was.workers;
      block = other_option (codes "trace") (codes "block") v (rows_at h) refl ∙ was.block;
      made = other_option (codes "trace") (codes "made") v (rows_at h) refl ∙ was.made;
      report = other_option (codes "trace") (codes "report") v (rows_at h) refl ∙ was.report;
      jobs = other_option (codes "trace") (codes "jobs") v (rows_at h) refl ∙ was.jobs;
      model = other_option (codes "trace") (codes "model") v (rows_at h) refl
          ∙ (was.model ∙ ap (λ names. option_map (text_row (codes "model")) (slice_get names 0)) one);
      trace = first_use (codes "trace") AsWritten CommandLine (v ∷ []) (rows_at h) free;
    }

-- ---- each word passes

abbrev pub shape : Shape
shape = (built app).top

pub both_true : (a b : Bool) → a ≡ true → b ≡ true → (a && b) ≡ true
both_true a b p q = ap (λ c. c && b) p ∙ q

pub jobs_turn : (place : ℕ) (g : Given) (h : Held) → Holds g h → g.jobs ≡ false → turn_passes shape [] (at place h) jobs_option ≡ true
jobs_turn place g h was none =
    let free : found (codes "jobs") (rows_at h) ≡ None = was.jobs ∙ ap flag_row none in
    ap (λ b. (b && ((not (has_row (codes "jobs") (rows_at h)) || false) && true)) && true) was.settles
    ∙ ap (λ b. b && true) (value_passes (codes "jobs") (rows_at h) free)

pub workers_turn : (place : ℕ) (g : Given) (h : Held) → Holds g h → turn_passes shape [] (at place h) workers_option ≡ true
workers_turn place g h was = ap (λ b. b && true) was.settles

pub block_turn : (place : ℕ) (g : Given) (h : Held) → Holds g h → turn_passes shape [] (at place h) block_option ≡ true
block_turn place g h was = ap (λ b. b && true) was.settles

pub made_turn : (place : ℕ) (g : Given) (h : Held) → Holds g h → turn_passes shape [] (at place h) made_option ≡ true
made_turn place g h was = ap (λ b. b && true) was.settles

pub report_turn : (place : ℕ) (g : Given) (h : Held) → Holds g h → turn_passes shape [] (at place h) report_option ≡ true
report_turn place g h was = ap (λ b. b && true) was.settles

-- a value of an option passes
value_word : (v : Text) (h : Held) → begins_with_dash v ≡ false → (bytes_eq v (45 ∷ 45 ∷ []) || flag_word_passes rules false (long_of v) v h) ≡ true
value_word v h e =
    ap (λ b. b || flag_word_passes rules false (long_of v) v h) (no_dashes v e)
    ∙ (ap (λ o. flag_word_passes rules false (option_and_then long_of_rest (option_and_then (strip_byte 45) o)) v h) (no_dash v e)
    ∙ ap (λ o. option_map_or (λ flags. bundle_passes rules false flags h) (option_and_then short_of_rest o) true) (no_dash v e))

pub workers_value_turn : (place : ℕ) (h : Held) (v : Text) → begins_with_dash v ≡ false → turn_passes shape [] (walked rules [] (at place h) workers_option) v ≡ true
unfolding walked
workers_value_turn place h v e =
    both_true _ _ (value_word v (waits (codes "workers") place h).held e)
    (ap (λ (m : Held × Step). step_passes shape place m.0 m.1) (plain (option (codes "workers")) place v (waits (codes "workers") place h).held e))

pub block_value_turn : (place : ℕ) (h : Held) (v : Text) → begins_with_dash v ≡ false → turn_passes shape [] (walked rules [] (at place h) block_option) v ≡ true
unfolding walked
block_value_turn place h v e =
    both_true _ _ (value_word v (waits (codes "block") place h).held e)
    (ap (λ (m : Held × Step). step_passes shape place m.0 m.1) (plain (option (codes "block")) place v (waits (codes "block") place h).held e))

pub made_value_turn : (place : ℕ) (h : Held) (v : Text) → begins_with_dash v ≡ false → turn_passes shape [] (walked rules [] (at place h) made_option) v ≡ true
unfolding walked
made_value_turn place h v e =
    both_true _ _ (value_word v (waits (codes "made") place h).held e)
    (ap (λ (m : Held × Step). step_passes shape place m.0 m.1) (plain (option (codes "made")) place v (waits (codes "made") place h).held e))

pub report_value_turn : (place : ℕ) (h : Held) (v : Text) → begins_with_dash v ≡ false → turn_passes shape [] (walked rules [] (at place h) report_option) v ≡ true
unfolding walked
report_value_turn place h v e =
    both_true _ _ (value_word v (waits (codes "report") place h).held e)
    (ap (λ (m : Held × Step). step_passes shape place m.0 m.1) (plain (option (codes "report")) place v (waits (codes "report") place h).held e))

or_true : (b : Bool) → (b || true) ≡ true
or_true true = refl
or_true false = refl

pub model_turn : (g : Given) (h : Held) (v : Text) → Holds g h → begins_with_dash v ≡ false → turn_passes shape [] (at 1 h) v ≡ true
model_turn g h v was e =
    both_true _ _ (value_word v h e)
    (ap (λ (m : Held × Step). step_passes shape 1 m.0 m.1) (plain idle 1 v h e)
    ∙ (ap (λ b. (is_pending model_built h.pending && false) || b) was.settles ∙ or_true _))

pub trace_turn : (g : Given) (h : Held) (v : Text) → Holds g h → begins_with_dash v ≡ false → turn_passes shape [] (at 2 h) v ≡ true
trace_turn g h v was e =
    both_true _ _ (value_word v h e)
    (ap (λ (m : Held × Step). step_passes shape 2 m.0 m.1) (plain idle 2 v h e)
    ∙ (ap (λ b. (is_pending trace_built h.pending && false) || b) was.settles ∙ or_true _))
