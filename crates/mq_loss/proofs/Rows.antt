-- Rounds and windows, computed on a case worked by hand: one place, each served for 2 ticks, one arrival a tick.
use Rattle.std.proofs.Common.{◌≡◌, ℕ, true, false, List, [], ◌∷◌, refl}
use Rattle.mq_loss.specs.Rounds.{admission, departure_behind, guess_after, loss_rule}
use Rattle.mq_rounds.specs.Rounds.{departures_of, round_of}
use Rattle.mq_rounds.specs.Windows.{after_windows}

abbrev times : List ℕ
times = 0 ∷ 1 ∷ 2 ∷ 3 ∷ []

abbrev demands : List ℕ
demands = 2 ∷ 2 ∷ 2 ∷ 2 ∷ []

-- every other arrival is admitted
admission-row : admission 1 times demands ≡ true ∷ false ∷ true ∷ false ∷ []
admission-row = refl

departures-row : departures_of departure_behind times demands (admission 1 times demands) ≡ 2 ∷ 4 ∷ []
departures-row = refl

first-round : round_of (loss_rule 1) times demands (true ∷ true ∷ true ∷ true ∷ []) ≡ true ∷ false ∷ false ∷ false ∷ []
first-round = refl

second-round : guess_after 1 times demands 2 ≡ true ∷ false ∷ true ∷ true ∷ []
second-round = refl

third-round : guess_after 1 times demands 3 ≡ true ∷ false ∷ true ∷ false ∷ []
third-round = refl

fourth-round : guess_after 1 times demands 4 ≡ guess_after 1 times demands 3
fourth-round = refl

-- the first window of 2 is settled whole, though its last index was changed, so the next has 4 indices, of which 2 are left
windows-of-two : after_windows (loss_rule 1) times demands 2 1 ≡ record { settled = true ∷ false ∷ []; width = 4; judged = 2 }
windows-of-two = refl

all-of-two : after_windows (loss_rule 1) times demands 2 2 ≡ record { settled = true ∷ false ∷ true ∷ false ∷ []; width = 4; judged = 4 }
all-of-two = refl

-- of a first window of 4 two indices are settled
windows-of-four : after_windows (loss_rule 1) times demands 4 1 ≡ record { settled = true ∷ false ∷ []; width = 2; judged = 4 }
windows-of-four = refl

all-of-four : after_windows (loss_rule 1) times demands 4 2 ≡ record { settled = true ∷ false ∷ true ∷ false ∷ []; width = 4; judged = 6 }
all-of-four = refl
