-- What clap finds in arguments that meet the rule.
use Rattle.std.specs.Prelude.{◌≡◌, ◌-◌, ◌^◌, ℕ, false, List, [], ◌∷◌, Option, Some, option_map, codes, slice_get, if◌then◌else◌}
use Rattle.clap.specs.Matches.{first_value, one_text}
use Rattle.clap.specs.declared.parser.matches.Found.{Found}
use Rattle.mq_base.specs.Text.{number_of}
use Rattle.mq_words.specs.Words.{asks_made, block_option, jobs_asked, made_option, report_option, value_of, words_left, workers_option}
use Rattle.mq_words.specs.declared.words.Form.{Form}
use Rattle.mq_words.specs.declared.words.Form.TheVariants as form
use Rattle.mq_words.specs.declared.words.Subject.{Subject}
use Rattle.mq_words.specs.declared.words.Subject.TheVariants as subject

-- Each option has the argument directly after it, the flag is set if it is given, and of the other arguments the first
-- is the model's name and the second the trace's.
pub record Finds (words : List (List ℕ)) (found : Found) : Type 0 where
  pub model : first_value found (codes "model") ≡ slice_get (words_left words) 0
  pub trace : first_value found (codes "trace") ≡ slice_get (words_left words) 1
  pub workers : first_value found (codes "workers") ≡ value_of workers_option words
  pub block : first_value found (codes "block") ≡ value_of block_option words
  pub made : first_value found (codes "made") ≡ value_of made_option words
  pub report : first_value found (codes "report") ≡ value_of report_option words
  pub jobs : one_text found (codes "jobs") ≡ Some (if jobs_asked words then codes "true" else codes "false")

-- the arguments have this form: two names and no made input, or a made input and no names
abbrev pub HasForm : List (List ℕ) → Form → Type 0
HasForm words (form.Names model trace) = (asks_made words ≡ false) × (words_left words ≡ model.now ∷ trace.now ∷ [])
HasForm words (form.Made text) = (value_of made_option words ≡ Some text.now) × (words_left words ≡ [])

-- the input, unless the value of `--made` isn't a number
abbrev pub subject_of : Form → Option Subject
subject_of (form.Names model trace) = Some (subject.Named model trace)
subject_of (form.Made text) = option_map subject.Made (number_of text.now (2 ^ 64 - 1))
