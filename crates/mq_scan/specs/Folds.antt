-- The fold of jobs that act one after another, the summary of a range of them, and ranges cut into blocks.
use Rattle.std.specs.Prelude.{◌≡◌, ℕ, zero, suc, ◌+◌, ◌-◌, ◌*◌, ◌<◌, ◌≤◌, List, [], ◌∷◌, length, min, slice_index_or}

module _ {S : Type 0} where
  -- what the job at an index and the n jobs after it do together
  abbrev pub span : (S → S → S) → (ℕ → S) → ℕ → ℕ → S
  span joined part from zero = part from
  span joined part from (suc n) = joined (span joined part from n) (part (from + suc n))

  -- a summary followed by the n jobs from this index on
  abbrev pub extended : (S → S → S) → (ℕ → S) → S → ℕ → ℕ → S
  extended joined part sum from zero = sum
  extended joined part sum from (suc n) = joined (extended joined part sum from n) (part (from + n))

  -- item b is the summary of block b, of the indices below n cut into runs of `block`
  pub record AreSummaries (joined : S → S → S) (part : ℕ → S) (n block : ℕ) (sums : List S) : Type 0 where
    pub some : 1 ≤ block
    pub within : (b : ℕ) → b < length sums → b * block < n
    pub each : (b : ℕ) (d : S) → b < length sums → slice_index_or sums b d ≡ span joined part (b * block) ((min ((b + 1) * block) n - b * block) - 1)

module _ {S C : Type 0} where
  -- the carry before the job at an index: the starting carry after the jobs before that index have acted on it in turn
  abbrev pub fold_to : (S → C → C) → C → (ℕ → S) → ℕ → C
  fold_to acted start part zero = start
  fold_to acted start part (suc n) = acted (part n) (fold_to acted start part n)

  -- the carries after each of n jobs, the first at this index
  abbrev pub carries_after : (S → C → C) → C → (ℕ → S) → ℕ → ℕ → List C
  carries_after acted start part from zero = []
  carries_after acted start part from (suc n) = fold_to acted start part (suc from) ∷ carries_after acted start part (suc from) n

  -- on a carry, each of the `count` jobs from an index on may act in turn, and so may the summary of the jobs up to each of them
  abbrev pub MayTurn : (S → S → S) → (S → C → C) → (S → C → Type 0) → (ℕ → S) → ℕ → ℕ → C → Type 0
  MayTurn joined acted can_act part from count carry =
      (n : ℕ) → n < count → can_act (span joined part from n) carry × can_act (part (from + n)) (fold_to acted carry (λ k. part (from + k)) n)

  -- item b is the carry before block b
  abbrev pub AreBefore : (S → C → C) → C → (ℕ → S) → ℕ → List C → Type 0
  AreBefore acted start part block cs = (b : ℕ) (d : C) → b < length cs → slice_index_or cs b d ≡ fold_to acted start part (b * block)
