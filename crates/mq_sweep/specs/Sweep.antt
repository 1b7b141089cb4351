-- The text of a sweep: what each model gives over one trace.
use Rattle.std.specs.Prelude.{◌≡◌, ◌==◌, ◌&&◌, ◌||◌, ℕ, ◌+◌, ◌-◌, Bool, true, List, [], ◌∷◌, ◌++◌, length, map, codes, decimal, Option, Some, None, nat_lt, slice_index_or, if◌then◌else◌}
use Rattle.std.specs.List.{list_any}
use Rattle.mq_base.specs.Text.{begins_with_dash}
use Rattle.mq_sweep.specs.Scenario.{scenario_status, scenario_text}

-- what a run wrote, after the first line of its scenario, which has its number, from 1, and its
-- status
abbrev pub headed : (number status : ℕ) → List ℕ → List ℕ
headed number status text = codes "scenario " ++ decimal (number + 1) ++ codes " status " ++ decimal status ++ 10 ∷ [] ++ text

-- the lines of the scenario of a model with this number, from 0, over a trace
abbrev pub scenario_lines : List ℕ → ℕ → List ℕ → List ℕ
scenario_lines trace number model = headed number (scenario_status trace model) (scenario_text trace model)

-- the lines of these models, the first of which has this number
abbrev pub lines_from : List ℕ → ℕ → List (List ℕ) → List ℕ
lines_from trace number [] = []
lines_from trace number (model ∷ models) = scenario_lines trace number model ++ lines_from trace (number + 1) models

-- the text of a sweep
abbrev pub sweep_text : List ℕ → List (List ℕ) → List ℕ
sweep_text trace models = lines_from trace 0 models

-- whether the status of each model's run is 0
abbrev pub all_done : List ℕ → List (List ℕ) → Bool
all_done trace [] = true
all_done trace (model ∷ models) = (scenario_status trace model == 0) && all_done trace models

-- whether there aren't 2 to 65 arguments, or one begins with a dash
abbrev pub refuses_words : List (List ℕ) → Bool
refuses_words words = nat_lt (length words) 2 || nat_lt 65 (length words) || list_any begins_with_dash words

-- the names of the files that are read: all arguments, or none if the arguments are invalid
abbrev pub names_read : List (List ℕ) → List (List ℕ)
names_read words = if refuses_words words then [] else words

-- the most bytes of the file that an argument names; arguments count from 1, and the first names
-- the trace
abbrev pub limit_of : ℕ → ℕ
limit_of word = if word == 1 then 134217728 else 65536

-- the first argument, from this one on, whose file is too long
abbrev pub first_long : ℕ → List (List ℕ) → Option ℕ
first_long word [] = None
first_long word (bytes ∷ files) = if nat_lt (limit_of word) (length bytes) then Some word else first_long (word + 1) files

-- a file that is too long, or the text of the sweep, and whether each run's status is 0
pub data SweepAnswer : Type 0 where
  LongFile : ℕ → SweepAnswer
  Swept : List ℕ → Bool → SweepAnswer

-- what the trace and the models give
abbrev pub swept : List (List ℕ) → SweepAnswer
swept [] = Swept [] true
swept (trace ∷ models) = Swept (sweep_text trace models) (all_done trace models)

abbrev pub answer_unless : Option ℕ → List (List ℕ) → SweepAnswer
answer_unless None files = swept files
answer_unless (Some word) files = LongFile word

-- the answer to a trace and models, in the order of the arguments
abbrev pub sweep_answer : List (List ℕ) → SweepAnswer
sweep_answer files = answer_unless (first_long 1 files) files

-- what is known of the file that an argument names, from what is known of all files
abbrev pub told_of_word : List (Option (List ℕ)) → ℕ → Option (List ℕ)
told_of_word told word = slice_index_or told (word - 1) None

-- all files are known, and these are their contents
abbrev pub AreFiles : List (Option (List ℕ)) → List (List ℕ) → Type 0
AreFiles told files = told ≡ map Some files
