-- Rounds and windows, computed on a case worked by hand: two servers, each job served for 3 ticks, one arrival a tick.
use Rattle.std.proofs.Common.{◌≡◌, ℕ, true, false, List, [], ◌∷◌, refl}
use Rattle.mq_rounds.specs.Rounds.{departures_of, round_of}
use Rattle.mq_rounds.specs.Windows.{after_windows}
use Rattle.mq_trunk.specs.Rounds.{admission, departure_at_once, trunk_rule}

abbrev times : List ℕ
times = 0 ∷ 1 ∷ 2 ∷ 3 ∷ 4 ∷ []

abbrev demands : List ℕ
demands = 3 ∷ 3 ∷ 3 ∷ 3 ∷ 3 ∷ []

-- the third arrival is lost
admission-row : admission 2 times demands ≡ true ∷ true ∷ false ∷ true ∷ true ∷ []
admission-row = refl

departures-row : departures_of departure_at_once times demands (admission 2 times demands) ≡ 3 ∷ 4 ∷ 6 ∷ 7 ∷ []
departures-row = refl

first-round : round_of (trunk_rule 2) times demands (true ∷ true ∷ true ∷ true ∷ true ∷ []) ≡ true ∷ true ∷ false ∷ false ∷ false ∷ []
first-round = refl

second-round : round_of (trunk_rule 2) times demands (true ∷ true ∷ false ∷ false ∷ false ∷ []) ≡ true ∷ true ∷ false ∷ true ∷ true ∷ []
second-round = refl

third-round : round_of (trunk_rule 2) times demands (true ∷ true ∷ false ∷ true ∷ true ∷ []) ≡ true ∷ true ∷ false ∷ true ∷ true ∷ []
third-round = refl

-- of a first window of 5 three arrivals are settled, and the other two by a second window of 2
first-window : after_windows (trunk_rule 2) times demands 5 1 ≡ record { settled = true ∷ true ∷ false ∷ []; width = 3; judged = 5 }
first-window = refl

second-window : after_windows (trunk_rule 2) times demands 5 2 ≡ record { settled = true ∷ true ∷ false ∷ true ∷ true ∷ []; width = 4; judged = 7 }
second-window = refl
