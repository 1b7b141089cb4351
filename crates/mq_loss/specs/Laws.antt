-- What departs from a loss station, given a guess.
use Rattle.std.specs.Prelude.{◌≡◌, ℕ, Bool, true, false, List, [], ◌∷◌, length}
use Rattle.mq_core.specs.Recurrences.{lindley}
use Rattle.mq_loss.specs.Rounds.{departure_behind}
use Rattle.mq_rounds.specs.Rounds.{departures_of}

-- those of these items that the guess admits
abbrev pub guessed : List Bool → List ℕ → List ℕ
guessed [] items = []
guessed (admit ∷ guess) [] = []
guessed (true ∷ guess) (item ∷ items) = item ∷ guessed guess items
guessed (false ∷ guess) (item ∷ items) = guessed guess items

-- those that a guess admits follow the server's recurrence
abbrev pub GuessedAreServed : Type 0
GuessedAreServed =
    (times demands : List ℕ) (guess : List Bool)
    → length demands ≡ length times
    → length guess ≡ length times
    → departures_of departure_behind times demands guess ≡ lindley 0 (guessed guess times) (guessed guess demands)
