-- The arguments of the program: which lists are invalid and why, and what the others ask for.
use Rattle.std.specs.Prelude.{◌≡◌, ◌==◌, ◌&&◌, ◌||◌, ℕ, Bool, true, false, not, List, [], ◌∷◌, length, codes, bytes_eq, slice_get, nat_lt, nat_le, ◌-◌, ◌^◌, Option, Some, None, is_some, is_none, option_and_then, if◌then◌else◌}
use Rattle.std.specs.List.{list_any}
use Rattle.mq_base.specs.Text.{begins_with_dash, number_of}
use Rattle.mq_words.specs.declared.fault.UsageFault.{UsageFault}
use Rattle.mq_words.specs.declared.fault.UsageFault.TheVariants.{Words, Form, Workers, Block, Made, Report}
use Rattle.mq_words.specs.declared.fault.WordsFault.{WordsFault}
use Rattle.mq_words.specs.declared.fault.WordsFault.TheVariants.{Usage, Memory}
use Rattle.mq_words.specs.declared.words.Subject.{Subject}
use Rattle.mq_words.specs.declared.words.Subject.TheVariants as subject
use Rattle.mq_words.specs.declared.words.Settings.{Settings}

-- the options: four that take a value, and a flag
abbrev pub workers_option : List ℕ
workers_option = codes "--workers"

abbrev pub block_option : List ℕ
block_option = codes "--block"

abbrev pub made_option : List ℕ
made_option = codes "--made"

abbrev pub report_option : List ℕ
report_option = codes "--report"

abbrev pub jobs_option : List ℕ
jobs_option = codes "--jobs"

-- an option that takes a value
abbrev pub takes_value : List ℕ → Bool
takes_value word = bytes_eq word workers_option || bytes_eq word block_option || bytes_eq word made_option || bytes_eq word report_option

abbrev pub is_option : List ℕ → Bool
is_option word = takes_value word || bytes_eq word jobs_option

-- begins with a dash, and isn't an option
abbrev pub is_unknown : List ℕ → Bool
is_unknown word = begins_with_dash word && not (is_option word)

-- empty, or an unknown option
abbrev pub is_bad_word : List ℕ → Bool
is_bad_word word = (length word == 0) || is_unknown word

-- whether the argument is in the list
abbrev pub has_word : List ℕ → List (List ℕ) → Bool
has_word word words = list_any (λ w. bytes_eq w word) words

-- whether the argument is in the list at least twice
abbrev pub stands_twice : List ℕ → List (List ℕ) → Bool
stands_twice word [] = false
stands_twice word (w ∷ rest) = (bytes_eq w word && has_word word rest) || stands_twice word rest

-- whether there is a first argument, and it doesn't begin with a dash
abbrev pub begins_with_value : List (List ℕ) → Bool
begins_with_value [] = false
begins_with_value (w ∷ rest) = not (begins_with_dash w)

-- an option that takes a value isn't directly followed by one
abbrev pub lacks_value : List (List ℕ) → Bool
lacks_value [] = false
lacks_value (w ∷ rest) = (takes_value w && not (begins_with_value rest)) || lacks_value rest

-- the arguments that are neither options nor values of options; `is_value` means that the first argument is such a value
abbrev pub left_from : Bool → List (List ℕ) → List (List ℕ)
left_from is_value [] = []
left_from true (w ∷ rest) = left_from false rest
left_from false (w ∷ rest) = if takes_value w then left_from true rest else if is_option w then left_from false rest else w ∷ left_from false rest

abbrev pub words_left : List (List ℕ) → List (List ℕ)
words_left words = left_from false words

-- an argument is empty or an unknown option, an option is given twice or lacks its value, or more than two other arguments
-- are left
abbrev pub refuses_words : List (List ℕ) → Bool
refuses_words words = list_any is_bad_word words || stands_twice workers_option words
    || stands_twice block_option words || stands_twice made_option words || stands_twice report_option words || stands_twice jobs_option words
    || lacks_value words || nat_lt 2 (length (words_left words))

-- the argument directly after the option
abbrev pub value_of : List ℕ → List (List ℕ) → Option (List ℕ)
value_of option [] = None
value_of option (w ∷ rest) = if bytes_eq w option then slice_get rest 0 else value_of option rest

-- the number, if there is one and it isn't below `least`
abbrev pub at_least : ℕ → Option ℕ → Option ℕ
at_least least None = None
at_least least (Some n) = if nat_le least n then Some n else None

-- the number that the value of an option gives, from `least` to `most`, or the default without a value
abbrev pub number_asked : (default least most : ℕ) → Option (List ℕ) → Option ℕ
number_asked default least most None = Some default
number_asked default least most (Some text) = at_least least (number_of text most)

-- the number of workers, from 1 to 64
abbrev pub workers_asked : List (List ℕ) → Option ℕ
workers_asked words = number_asked 4 1 64 (value_of workers_option words)

-- the number of jobs in a block, from 1 to 65,536
abbrev pub block_asked : List (List ℕ) → Option ℕ
block_asked words = number_asked 4096 1 65536 (value_of block_option words)

-- a made input is asked for
abbrev pub asks_made : List (List ℕ) → Bool
asks_made words = is_some (value_of made_option words)

-- the number of the made input, from 0 to 2 ^ 64 - 1, if one is asked for
abbrev pub made_asked : List (List ℕ) → Option ℕ
made_asked words = option_and_then (λ text. number_of text (2 ^ 64 - 1)) (value_of made_option words)

-- the form of the report, 1 or 2
abbrev pub form_asked : List (List ℕ) → Option ℕ
form_asked words = number_asked 2 1 2 (value_of report_option words)

-- whether job lines are asked for
abbrev pub jobs_asked : List (List ℕ) → Bool
jobs_asked words = has_word jobs_option words

-- the number of names needed: those of a model and of a trace, unless a made input is asked for
abbrev pub names_needed : List (List ℕ) → ℕ
names_needed words = if asks_made words then 0 else 2

-- the first error in the arguments, if there is one
abbrev pub usage_fault : List (List ℕ) → Option UsageFault
usage_fault words =
    if refuses_words words then Some Words
    else if not (length (words_left words) == names_needed words) then Some Form
    else if is_none (workers_asked words) then Some Workers
    else if is_none (block_asked words) then Some Block
    else if asks_made words && is_none (made_asked words) then Some Made
    else if is_none (form_asked words) then Some Report
    else None

-- valid arguments that name this model and this trace
pub record Names (words : List (List ℕ)) (model trace : List ℕ) : Type 0 where
  pub accepted : usage_fault words ≡ None
  pub named : words_left words ≡ model ∷ trace ∷ []

-- valid arguments that ask for the made input of this number
pub record Makes (words : List (List ℕ)) (number : ℕ) : Type 0 where
  pub accepted : usage_fault words ≡ None
  pub made : made_asked words ≡ Some number

-- valid arguments that ask for this input
abbrev pub AsksFor : List (List ℕ) → Subject → Type 0
AsksFor words (subject.Named model trace) = Names words model.now trace.now
AsksFor words (subject.Made number) = Makes words number

-- valid arguments that ask for these settings
pub record Asks (words : List (List ℕ)) (s : Settings) : Type 0 where
  pub accepted : usage_fault words ≡ None
  pub subject : AsksFor words s.subject
  pub workers : workers_asked words ≡ Some s.workers
  pub block : block_asked words ≡ Some s.block
  pub form : form_asked words ≡ Some s.form
  pub jobs : jobs_asked words ≡ s.jobs

-- how arguments may fail; memory can run out only if they meet the rule
abbrev pub RefusesWords : List (List ℕ) → WordsFault → Type 0
RefusesWords words (Usage f) = usage_fault words ≡ Some f
RefusesWords words Memory = refuses_words words ≡ false
