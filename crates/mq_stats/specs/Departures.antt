-- Departures in order, to count the jobs that are gone.
use Rattle.std.specs.Prelude.{◌≡◌, ℕ, suc, ◌≤◌, ◌==◌, ◌&&◌, ◌||◌, nat_le, nat_lt, Bool, true, false, List, [], ◌∷◌}
use Rattle.mq_core.specs.Laws.{Rises}
use Rattle.mq_core.specs.declared.model.Fate.{Fate}
use Rattle.mq_core.specs.declared.model.Fate.TheVariants.{Departs, Held, Lost}

-- the departure of the visit at a position, with that position, in front of a list; a lost or held visit adds nothing
abbrev pub with_departure : ℕ → Fate → List (ℕ × ℕ) → List (ℕ × ℕ)
with_departure position (Departs time) departures = (time, position) ∷ departures
with_departure position Lost departures = departures
with_departure position Held departures = departures

-- the departures of visits, with their positions; the first visit is at this position
abbrev pub departures_from : ℕ → List Fate → List (ℕ × ℕ)
departures_from position [] = []
departures_from position (fate ∷ fates) = with_departure position fate (departures_from (suc position) fates)

-- a departure before this time, or at this time from an earlier position
abbrev pub is_gone : ℕ → ℕ → ℕ × ℕ → Bool
is_gone time position departure = nat_lt departure.0 time || ((departure.0 == time) && nat_lt departure.1 position)

-- ordered by time, and at one time by position
abbrev pub Ascends : List (ℕ × ℕ) → Type 0
Ascends departures = Rises (λ x y. (x.0 ≤ y.0) × (x.0 ≡ y.0 → x.1 ≤ y.1)) departures

-- whether a visit isn't lost
abbrev pub stays : Fate → Bool
stays (Departs time) = true
stays Lost = false
stays Held = true

-- the visits that aren't lost depart in order of arrival, none before this time, and none is held
abbrev pub departures_rise : ℕ → List Fate → Bool
departures_rise latest [] = true
departures_rise latest (Departs time ∷ fates) = nat_le latest time && departures_rise time fates
departures_rise latest (Lost ∷ fates) = departures_rise latest fates
departures_rise latest (Held ∷ fates) = false
