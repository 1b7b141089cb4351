-- Rounds of guesses at a station that admits or loses each arrival: which arrivals a guess admits, and what one round makes of
-- it.
use Rattle.std.specs.Prelude.{ℕ, Bool, true, false, List, [], ◌∷◌, map, replicate, reverse, if◌then◌else◌}
use Rattle.mq_core.specs.declared.model.Fate.{Fate}
use Rattle.mq_core.specs.declared.model.Fate.TheVariants.{Departs, Held, Lost}

-- How a station judges an arrival, and when an admitted one departs, given its demand. Both depend on the departures of those
-- admitted before it, the latest admitted first.
pub record Rule : Type 0 where
  pub judges : List ℕ → ℕ → Bool
  pub departs : List ℕ → ℕ → ℕ → ℕ

-- whether a visit is admitted; at such a station none is held
abbrev pub admits : Fate → Bool
admits (Departs time) = true
admits Lost = false
admits Held = true

-- the fate of each arrival, given whether it is admitted, and the departures of those that are, by position
abbrev pub fates_by : List Bool → List ℕ → List Fate
fates_by [] departs = []
fates_by (false ∷ admitted) departs = Lost ∷ fates_by admitted departs
fates_by (true ∷ admitted) [] = Lost ∷ fates_by admitted []
fates_by (true ∷ admitted) (time ∷ departs) = Departs time ∷ fates_by admitted departs

-- the fates of arrivals by a rule, if those admitted before them left at these times, the latest admitted first
abbrev pub fates_from : Rule → List ℕ → List ℕ → List ℕ → List Fate
fates_from rule left [] demands = []
fates_from rule left (arrive ∷ arrives) [] = []
fates_from rule left (arrive ∷ arrives) (demand ∷ demands) =
    if rule.judges left arrive
    then (Departs (rule.departs left arrive demand) ∷ fates_from rule (rule.departs left arrive demand ∷ left) arrives demands)
    else (Lost ∷ fates_from rule left arrives demands)

-- which of these arrivals are admitted
abbrev pub admission_from : Rule → List ℕ → List ℕ → List ℕ → List Bool
admission_from rule left times demands = map admits (fates_from rule left times demands)

-- which arrivals a rule admits
abbrev pub admission_of : Rule → List ℕ → List ℕ → List Bool
admission_of rule times demands = admission_from rule [] times demands

-- the departures of those guessed admitted, the latest admitted first, after one more job, which is guessed admitted or not
abbrev pub left_behind : (List ℕ → ℕ → ℕ → ℕ) → Bool → List ℕ → ℕ → ℕ → List ℕ
left_behind departs true left arrive demand = departs left arrive demand ∷ left
left_behind departs false left arrive demand = left

-- One round of a guess: each arrival is judged by the departures of those before it that the guess admits.
abbrev pub round_from : Rule → List ℕ → List ℕ → List ℕ → List Bool → List Bool
round_from rule left [] demands guess = []
round_from rule left (arrive ∷ arrives) [] guess = []
round_from rule left (arrive ∷ arrives) (demand ∷ demands) [] = []
round_from rule left (arrive ∷ arrives) (demand ∷ demands) (admit ∷ guess) =
    rule.judges left arrive ∷ round_from rule (left_behind rule.departs admit left arrive demand) arrives demands guess

-- what one round makes of a guess
abbrev pub round_of : Rule → List ℕ → List ℕ → List Bool → List Bool
round_of rule times demands guess = round_from rule [] times demands guess

-- the departures, by position, of those that a guess admits, after jobs that left at these times, the latest admitted first
abbrev pub departures_from : (List ℕ → ℕ → ℕ → ℕ) → List ℕ → List ℕ → List ℕ → List Bool → List ℕ
departures_from departs left [] demands guess = []
departures_from departs left (arrive ∷ arrives) [] guess = []
departures_from departs left (arrive ∷ arrives) (demand ∷ demands) [] = []
departures_from departs left (arrive ∷ arrives) (demand ∷ demands) (true ∷ guess) =
    departs left arrive demand ∷ departures_from departs (departs left arrive demand ∷ left) arrives demands guess
departures_from departs left (arrive ∷ arrives) (demand ∷ demands) (false ∷ guess) = departures_from departs left arrives demands guess

-- the departures, by position, of those that a guess admits
abbrev pub departures_of : (List ℕ → ℕ → ℕ → ℕ) → List ℕ → List ℕ → List Bool → List ℕ
departures_of departs times demands guess = departures_from departs [] times demands guess

-- the same times, the latest admitted first
abbrev pub left_of : (List ℕ → ℕ → ℕ → ℕ) → List ℕ → List ℕ → List Bool → List ℕ
left_of departs times demands guess = reverse (departures_of departs times demands guess)

-- this many arrivals, all guessed admitted
abbrev pub all_admitted : ℕ → List Bool
all_admitted count = replicate count true
