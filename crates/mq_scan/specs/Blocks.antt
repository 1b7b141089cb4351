-- The blocks of a cut of all jobs: the indices of each, what its jobs do together, and the times read from the carries after
-- them.
use Rattle.std.specs.Prelude.{◌≡◌, ◌<◌, ◌+◌, ◌-◌, ◌*◌, ℕ, List, length, map, min, slice_index_or}
use Rattle.mq_scan.specs.Folds.{carries_after, span}
use Rattle.mq_scan.specs.declared.blocks.Blocks.{Blocks}

-- the first index of a block
abbrev pub from_of : Blocks → ℕ → ℕ
from_of blocks b = b * blocks.block

-- the index after its last
abbrev pub to_of : Blocks → ℕ → ℕ
to_of blocks b = min ((b + 1) * blocks.block) blocks.n

-- the number of its indices
abbrev pub size_of : Blocks → ℕ → ℕ
size_of blocks b = min ((b + 1) * blocks.block) blocks.n - b * blocks.block

module _ {S : Type 0} where
  -- what the jobs of a block do together
  abbrev pub IsSumOf : (S → S → S) → (ℕ → S) → Blocks → ℕ → S → Type 0
  IsSumOf joined part blocks b sum = sum ≡ span joined part (from_of blocks b) (size_of blocks b - 1)

  -- item b is what the jobs of block b do together
  abbrev pub AreSumsOf : (S → S → S) → (ℕ → S) → Blocks → List S → Type 0
  AreSumsOf joined part blocks sums = (b : ℕ) (d : S) → b < length sums → IsSumOf joined part blocks b (slice_index_or sums b d)

module _ {S C : Type 0} where
  -- the times read from the carries after the jobs of a block
  abbrev pub AreTimesOf : (C → ℕ) → (S → C → C) → C → (ℕ → S) → Blocks → ℕ → List ℕ → Type 0
  AreTimesOf time acted start part blocks b times = times ≡ map time (carries_after acted start part (from_of blocks b) (size_of blocks b))
