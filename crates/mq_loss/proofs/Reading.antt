-- The departures of a guess follow the server's recurrence.
use Rattle.std.proofs.Common.{◌≡◌, ℕ, Bool, true, false, List, [], ◌∷◌, length, refl, ap, arith}
use Rattle.std.specs.Prelude.{slice_get}
use Rattle.mq_core.specs.Recurrences.{lindley, time_or_none}
use Rattle.mq_loss.specs.Laws.{guessed}
use Rattle.mq_loss.specs.Rounds.{departure_behind}
use Rattle.mq_rounds.specs.Rounds.{departures_from}

pub served : (left times demands : List ℕ) (guess : List Bool) → length demands ≡ length times → length guess ≡ length times →
    departures_from departure_behind left times demands guess ≡ lindley (time_or_none (slice_get left 0)) (guessed guess times) (guessed guess demands)
served left [] demands [] d g = refl
served left [] demands (admit ∷ guess) d g = absurd (omega arith)
served left (arrive ∷ arrives) [] guess d g = absurd (omega arith)
served left (arrive ∷ arrives) (demand ∷ demands) [] d g = absurd (omega arith)
served left (arrive ∷ arrives) (demand ∷ demands) (true ∷ guess) d g =
    ap (λ ds. departure_behind left arrive demand ∷ ds) (served (departure_behind left arrive demand ∷ left) arrives demands guess (omega arith) (omega arith))
served left (arrive ∷ arrives) (demand ∷ demands) (false ∷ guess) d g = served left arrives demands guess (omega arith) (omega arith)
