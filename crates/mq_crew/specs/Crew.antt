-- What a worker returns, and what the gate requires of a seat.
use Rattle.std.specs.Prelude.{◌≡◌, ◌≢◌, ℕ, ◌+◌, ◌-◌, ◌<◌, ◌≤◌, List, [], ◌∷◌, ◌++◌, length, map, filter, All, Contains, nat_lt, Some, slice_get, slice_index_or}
use Rattle.std.specs.List.{AllByRecursion, flat_map}
use Rattle.mq_claims.specs.Counts.{late}
use Rattle.mq_claims.specs.Machine.{Worker, indices, Name, Reached, HasEnded}

-- the number is the last of the draws
abbrev pub IsLastOf : List ℕ → ℕ → Type 0
IsLastOf draws number = (before : List ℕ) × (draws ≡ before ++ number ∷ [])

-- each number is above those before it
abbrev pub Rise : List ℕ → Type 0
Rise [] = Unit {0}
Rise (x ∷ xs) = AllByRecursion (λ y. x < y) xs × Rise xs

module _ {X : Type 0} where
  abbrev pub numbers : List (ℕ × X) → List ℕ
  numbers made = map (λ p. p.0) made

  -- The pieces are those of the draws below the count, in order, and some draw has reached the count
  pub record IsMadeOf (is_piece : ℕ → X → Type 0) (count : ℕ) (draws : List ℕ) (made : List (ℕ × X)) : Type 0 where
    pub each : numbers made ≡ filter (λ d. nat_lt d count) draws
    pub pieces : All (λ p. is_piece p.0 p.1) made
    pub ended : 1 ≤ late count draws

  -- there is one item for each index, and each is the piece of its index
  pub record AreAll (is_piece : ℕ → X → Type 0) (count : ℕ) (items : List X) : Type 0 where
    pub len : length items ≡ count
    pub each : (b : ℕ) (d : X) → b < count → is_piece b (slice_index_or items b d)

  -- A worker of the machine that has ended: it drew the numbers of its pieces, and one that has reached the count
  pub record HasWorked (count : ℕ) (w : Worker X) : Type 0 where
    pub late : ℕ
    pub drew : w.draws ≡ indices w.done ++ late ∷ []
    pub past : count ≤ late
    pub early : AllByRecursion (λ d. d < count) (indices w.done)
    pub rise : Rise w.draws

  -- the draws and the pieces are those of `many` workers, one after another
  pub record AreWorked (count many : ℕ) (draws : List ℕ) (made : List (ℕ × X)) : Type 0 where
    pub workers : List (Worker X)
    pub many_are : length workers ≡ many
    pub draws_are : flat_map (λ w. w.draws) workers ≡ draws
    pub made_are : flat_map (λ w. w.done) workers ≡ made
    pub each : AllByRecursion (HasWorked count) workers

  -- A schedule of the machine has ended, with at least one worker, and otherwise at most `most` and one per piece. The items are the pieces that they recorded, each at its index
  pub record AreRecorded (most count : ℕ) (items : List X) : Type 0 where
    pub next : ℕ
    pub state : Name → Worker X
    pub reached : Reached count next state
    pub some : (w : Name) × ((state w).draws ≢ [])
    pub ended : HasEnded count state
    pub few : (w : Name) → (state w).draws ≢ [] → (w.0 ≡ 0) × (w.1 < most) × (w.1 ≤ count - 1)
    pub each : (x : ℕ) (d : X) → x < count → (w : Name) × Contains (state w).draws x × Contains (state w).done (x, slice_index_or items x d)

module _ {P : Type 0} (size : P → ℕ) where
  -- the number of pieces of all these parts
  abbrev pub total_size : List P → ℕ
  total_size [] = 0
  total_size (part ∷ parts) = size part + total_size parts

module _ {P X : Type 0} (size : P → ℕ) (is_piece : P → ℕ → X → Type 0) where
  -- the piece at an index of these parts, whose indices follow one another
  abbrev pub IsPieceOf : List P → ℕ → X → Type 0
  IsPieceOf [] b piece = ⊥
  IsPieceOf (part ∷ parts) b piece = (b < size part → is_piece part b piece) × (size part ≤ b → IsPieceOf parts (b - size part) piece)

  -- the pieces of each of these parts, in a list of its own
  pub record AreGroups (parts : List P) (groups : List (List X)) : Type 0 where
    pub len : length groups ≡ length parts
    pub each : (i : ℕ) (part : P) (group : List X) → slice_get parts i ≡ Some part → slice_get groups i ≡ Some group → AreAll (is_piece part) (size part) group
