-- The departures that a judgement needs: as many as there are servers, the latest first.
use Rattle.std.specs.Prelude.{◌≡◌, ℕ, min, nat_lt, if◌then◌else◌, List, [], ◌∷◌, length, ⊤}
use Rattle.mq_core.specs.Recurrences.{busy_at}

-- no time is later than one before it
abbrev pub IsFalling : List ℕ → Type 0
IsFalling [] = ⊤
IsFalling (time ∷ times) = (busy_at time times ≡ 0) × IsFalling times

-- a time is inserted among these, the latest first, and the earliest goes
abbrev pub take_place : ℕ → List ℕ → List ℕ
take_place time [] = []
take_place time (other ∷ others) = if nat_lt other time then time ∷ take_place other others else other ∷ take_place time others

-- the latest departures, one per server, stand in for all of these: both give, for each time, the same number that come
-- after it, up to the number of servers
pub record IsKept (servers : ℕ) (latest left : List ℕ) : Type 0 where
  pub falls : IsFalling latest
  pub number : length latest ≡ servers
  pub same : (now : ℕ) → min servers (busy_at now latest) ≡ min servers (busy_at now left)
