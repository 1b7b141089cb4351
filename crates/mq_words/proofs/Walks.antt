-- What clap makes of words that pass the rule: each word moves its walk as the definitions say.
use Rattle.std.proofs.Common.{◌≡◌, ◌∙◌, ◌&&◌, ℕ, Bool, true, false, List, [], ◌∷◌, Option, Some, None, refl, ap, codes}
use Rattle.std.specs.Prelude.{bytes_eq, option_and_then, if◌then◌else◌}
use Rattle.clap.specs.Lexer.{long_of, long_of_rest, short_of_rest, strip_byte}
use Rattle.clap.specs.Simple.{App, is_simple, new_app, new_rule, with_rule}
use Rattle.clap.specs.Walk.{Held, Row, Rule, Text, Walk, idle, walked, settled_rows, reacted, Waiting, Step, subcommand_or_other, plain_word, long_or_other, short_or_plain, option, after_step, pushed, settled, is_pending}
use Rattle.clap.specs.declared.builder.action.ArgAction.TheVariants.{Set, SetTrue}
use Rattle.clap.specs.declared.builder.value_parser.ValueParser.TheVariants as parser
use Rattle.mq_base.specs.Text.{begins_with_dash}
use Rattle.mq_words.specs.Words.{block_option, jobs_option, made_option, report_option, workers_option}

-- the command
abbrev pub option_rule : Text → Rule
option_rule id = record (new_rule id) { long = Some id }

abbrev pub jobs_rule : Rule
jobs_rule = record (new_rule (codes "jobs")) { long = Some (codes "jobs"); action = Some SetTrue }

abbrev pub bare_app : App
bare_app = record { top = record (new_app (codes "mpsim")).top { no_binary_name = true; disable_help_flag = true }; subs = [] }

abbrev pub app : App
app =
    with_rule (with_rule (with_rule (with_rule (with_rule (with_rule (with_rule bare_app (new_rule (codes "model"))) (new_rule (codes "trace"))) (option_rule (codes "workers")))
    (option_rule (codes "block"))) (option_rule (codes "made"))) (option_rule (codes "report"))) jobs_rule

-- an argument with one value, as the command is built
abbrev one_value : Text → Option Text → Option ℕ → Rule
one_value id long index = record (new_rule id) {
  long = long;
  index = index;
  action = Some Set;
  range = Some (record { start_inclusive = 1; end_inclusive = 1 });
  parser = Some parser.String;
}

abbrev pub model_built : Rule
model_built = one_value (codes "model") None (Some 1)

abbrev pub trace_built : Rule
trace_built = one_value (codes "trace") None (Some 2)

abbrev pub workers_built : Rule
workers_built = one_value (codes "workers") (Some (codes "workers")) None

abbrev pub block_built : Rule
block_built = one_value (codes "block") (Some (codes "block")) None

abbrev pub made_built : Rule
made_built = one_value (codes "made") (Some (codes "made")) None

abbrev pub report_built : Rule
report_built = one_value (codes "report") (Some (codes "report")) None

abbrev pub jobs_built : Rule
jobs_built = record jobs_rule {
  range = Some (record { start_inclusive = 0; end_inclusive = 0 });
  defaults = codes "false" ∷ [];
  missing = codes "true" ∷ [];
  parser = Some parser.Bool;
}

abbrev pub rules : List Rule
rules = model_built ∷ trace_built ∷ workers_built ∷ block_built ∷ made_built ∷ report_built ∷ jobs_built ∷ []

pub app_is_simple : is_simple app ≡ true
app_is_simple = refl

-- a walk between two words, with no option before it that waits
abbrev pub at : ℕ → Held → Walk
at place h = record { held = h; waiting = idle; position = place; is_trailing = false; stopped = None }

-- the rows once what is pending is used
abbrev pub rows_at : Held → List Row
rows_at h = settled_rows rules h.pending h.rows

-- the held rows with this argument pending
abbrev pub pends : Text → Text → Held → Held
pends id value h = record h { rows = rows_at h; pending = Some (id, value ∷ []) }

pub jobs_walk : (place : ℕ) (h : Held) → walked rules [] (at place h) jobs_option ≡ at place (reacted rules jobs_built [] h)
unfolding walked
jobs_walk place h = refl

-- a word that begins with no dash is none of the command's flags
pub no_dash : (v : Text) → begins_with_dash v ≡ false → strip_byte 45 v ≡ None
no_dash [] e = refl
no_dash (x ∷ xs) e = rw e refl

pub no_dashes : (v : Text) → begins_with_dash v ≡ false → bytes_eq v (45 ∷ 45 ∷ []) ≡ false
no_dashes [] e = refl
no_dashes (x ∷ xs) e = ap (λ b. b && bytes_eq xs (45 ∷ [])) e

pub plain : (waiting : Waiting) (place : ℕ) (v : Text) (h : Held) → begins_with_dash v ≡ false → subcommand_or_other rules None waiting place v h ≡ plain_word rules waiting v h
plain waiting place v h e =
    ap (λ b. if b then (h, Rattle.clap.specs.Walk.trailing place) else long_or_other rules waiting v (long_of v) h) (no_dashes v e)
    ∙ (ap (λ o. long_or_other rules waiting v (option_and_then long_of_rest (option_and_then (strip_byte 45) o)) h) (no_dash v e)
    ∙ ap (λ o. short_or_plain rules waiting v (option_and_then short_of_rest o) h) (no_dash v e))

-- a value goes to the option that waits for it
abbrev pub waits : Text → ℕ → Held → Walk
waits id place h = record { held = record (settled rules h) { pending = Some (id, []) }; waiting = option id; position = place; is_trailing = false; stopped = None }

pub workers_walk : (place : ℕ) (h : Held) (v : Text) → begins_with_dash v ≡ false → walked rules [] (walked rules [] (at place h) workers_option) v ≡ at place (pends (codes "workers") v h)
unfolding walked
workers_walk place h v e =
    ap (λ (m : Held × Step). after_step rules v (waits (codes "workers") place h) m.0 m.1) (plain (option (codes "workers")) place v (waits (codes "workers") place h).held e)

pub block_walk : (place : ℕ) (h : Held) (v : Text) → begins_with_dash v ≡ false → walked rules [] (walked rules [] (at place h) block_option) v ≡ at place (pends (codes "block") v h)
unfolding walked
block_walk place h v e =
    ap (λ (m : Held × Step). after_step rules v (waits (codes "block") place h) m.0 m.1) (plain (option (codes "block")) place v (waits (codes "block") place h).held e)

pub made_walk : (place : ℕ) (h : Held) (v : Text) → begins_with_dash v ≡ false → walked rules [] (walked rules [] (at place h) made_option) v ≡ at place (pends (codes "made") v h)
unfolding walked
made_walk place h v e =
    ap (λ (m : Held × Step). after_step rules v (waits (codes "made") place h) m.0 m.1) (plain (option (codes "made")) place v (waits (codes "made") place h).held e)

pub report_walk : (place : ℕ) (h : Held) (v : Text) → begins_with_dash v ≡ false → walked rules [] (walked rules [] (at place h) report_option) v ≡ at place (pends (codes "report") v h)
unfolding walked
report_walk place h v e =
    ap (λ (m : Held × Step). after_step rules v (waits (codes "report") place h) m.0 m.1) (plain (option (codes "report")) place v (waits (codes "report") place h).held e)

and_false : (b : Bool) → (b && false) ≡ false
and_false true = refl
and_false false = refl

pub model_walk : (h : Held) (v : Text) → begins_with_dash v ≡ false → walked rules [] (at 1 h) v ≡ at 2 (pends (codes "model") v h)
unfolding walked
model_walk h v e =
    ap (λ (m : Held × Step). after_step rules v (at 1 h) m.0 m.1) (plain idle 1 v h e)
    ∙ ap (λ b. at 2 (pushed (codes "model") v (if b then h else settled rules h))) (and_false (is_pending model_built h.pending))

pub trace_walk : (h : Held) (v : Text) → begins_with_dash v ≡ false → walked rules [] (at 2 h) v ≡ at 3 (pends (codes "trace") v h)
unfolding walked
trace_walk h v e =
    ap (λ (m : Held × Step). after_step rules v (at 2 h) m.0 m.1) (plain idle 2 v h e)
    ∙ ap (λ b. at 3 (pushed (codes "trace") v (if b then h else settled rules h))) (and_false (is_pending trace_built h.pending))
