-- The jobs of a server as affine maps of the last departure before them.
use Rattle.std.specs.Prelude.{◌≡◌, ◌+◌, ◌^◌, ◌≤◌, All, ℕ, List, length, slice_index}
use Rattle.mq_maxplus.specs.declared.mp.Mp.TheVariants.{At}
use Rattle.mq_maxplus.specs.declared.affine.Affine.{Affine}
use Rattle.mq_maxplus.specs.Maxplus.{affine}

-- what the job at an index does: it leaves its demand after the last departure, but not before its arrival plus its demand
abbrev pub job : List ℕ → List ℕ → ℕ → Affine
job arrive demands at = affine (slice_index demands at) (At (slice_index arrive at + slice_index demands at))

-- arrivals and demands of a server downstream of others: jobs may come later than those of a sound load
pub record IsLateLoad (times demands : List ℕ) : Type 0 where
  pub few : length times ≤ 1048576
  pub each : length demands ≡ length times
  pub early : All (λ time. time ≤ 2 ^ 62) times
  pub small : All (λ demand. demand ≤ 2 ^ 36) demands
