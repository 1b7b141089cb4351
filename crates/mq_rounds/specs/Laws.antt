-- What rounds of guesses lead to, for a rule that gives an admission for each list of arrivals and demands.
use Rattle.std.specs.Prelude.{◌≡◌, ℕ, ◌+◌, Bool, List, length, slice_get, take, Some, ◌↔◌}
use Rattle.mq_rounds.specs.Rounds.{Rule, left_of, round_of}

-- a guess is right on this many first arrivals
abbrev pub IsRightOn : ℕ → List Bool → List Bool → Type 0
IsRightOn count admission guess = take count guess ≡ take count admission

-- a round makes a guess right on one more arrival
abbrev pub GuessesGrow : Rule → (List ℕ → List ℕ → List Bool) → Type 0
GuessesGrow rule admission =
    (count : ℕ) (times demands : List ℕ) (guess : List Bool)
    → length demands ≡ length times
    → length guess ≡ length times
    → IsRightOn count (admission times demands) guess
    → IsRightOn (count + 1) (admission times demands) (round_of rule times demands guess)

-- a round leaves the admission unchanged, and no other guess
abbrev pub OneGuessStays : Rule → (List ℕ → List ℕ → List Bool) → Type 0
OneGuessStays rule admission =
    (times demands : List ℕ) (guess : List Bool)
    → length demands ≡ length times
    → length guess ≡ length times
    → (round_of rule times demands guess ≡ guess) ↔ (guess ≡ admission times demands)

-- a round judges an arrival by the departures of those before it that the guess admits
abbrev pub RoundsJudgeEach : Rule → Type 0
RoundsJudgeEach rule =
    (position arrive : ℕ) (times demands : List ℕ) (guess : List Bool)
    → length demands ≡ length times
    → length guess ≡ length times
    → slice_get times position ≡ Some arrive
    → slice_get (round_of rule times demands guess) position
    ≡ Some (rule.judges (left_of rule.departs times demands (take position guess)) arrive)
