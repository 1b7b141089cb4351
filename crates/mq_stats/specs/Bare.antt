-- The demands of jobs, in a list with one entry per
-- job.
use Rattle.std.specs.Prelude.{◌≡◌, ◌<◌, ℕ, List, get_or, length}

-- the list has, at the index of each of these jobs,
-- what the job asks for
pub record AreTimes (ask : ℕ → ℕ) (jobs times : List ℕ) : Type 0 where
  pub even : length times ≡ length jobs
  pub each : (i : ℕ) → i < length jobs → get_or times i 0 ≡ ask (get_or jobs i 0)
