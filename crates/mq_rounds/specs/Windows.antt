-- Rounds of guesses over windows that grow while they settle.
use Rattle.std.specs.Prelude.{◌≡◌, ℕ, zero, suc, ◌+◌, ◌*◌, ◌<◌, Bool, true, false, List, [], ◌∷◌, ◌++◌, length, drop, ◌==◌, if◌then◌else◌}
use Rattle.mq_rounds.specs.Rounds.{Rule, all_admitted, round_of}
use Rattle.mq_rounds.specs.declared.windows.Progress.{Progress}

-- what a window's round settles, if all were guessed admitted: the outcome up to the first arrival that it changed, or all
abbrev pub settled_part : List Bool → List Bool
settled_part [] = []
settled_part (true ∷ outcome) = true ∷ settled_part outcome
settled_part (false ∷ outcome) = false ∷ []

-- the length of the window after one in which this many arrivals were settled: twice its length if these are all, and
-- otherwise the number of settled arrivals
abbrev pub next_width : ℕ → ℕ → ℕ
next_width settled width = if settled == width then 2 * width else settled

-- what one round makes of a window, which begins after the settled arrivals and is guessed admitted up to the last arrival
abbrev pub window_after : Rule → List ℕ → List ℕ → List Bool → ℕ → List Bool
window_after rule times demands settled width = drop (length settled) (round_of rule times demands (settled ++ all_admitted width))

-- The state of a run of windows: the settled arrivals, the length of the next window, and the number of judgements made.
pub record Stand : Type 0 where
  pub settled : List Bool
  pub width : ℕ
  pub judged : ℕ

-- the state after a window whose round had this outcome
abbrev pub after_window : Stand → List Bool → Stand
after_window stand outcome = record {
  settled = stand.settled ++ settled_part outcome;
  width = next_width (length (settled_part outcome)) (length outcome);
  judged = stand.judged + length outcome;
}

-- the state after one more window
abbrev pub one_window : Rule → List ℕ → List ℕ → Stand → Stand
one_window rule times demands stand = after_window stand (window_after rule times demands stand.settled stand.width)

-- the state after this many windows, the first of this length
abbrev pub after_windows : Rule → List ℕ → List ℕ → ℕ → ℕ → Stand
after_windows rule times demands first zero = record { settled = []; width = first; judged = 0 }
after_windows rule times demands first (suc windows) = one_window rule times demands (after_windows rule times demands first windows)

-- this many windows, one round each, settle all arrivals and no fewer do; the judgements are the sum of their lengths
pub record IsWindowRun (rule : Rule) (times demands : List ℕ) (first rounds judgements : ℕ) : Type 0 where
  pub before : (windows : ℕ) → windows < rounds → length (after_windows rule times demands first windows).settled < length times
  pub all : length (after_windows rule times demands first rounds).settled ≡ length times
  pub judged : judgements ≡ (after_windows rule times demands first rounds).judged

-- the state of a run with this progress and this length of the next window
abbrev pub stand_of : Progress → ℕ → Stand
stand_of progress width = record { settled = progress.admitted.items; width = width; judged = progress.judged }
