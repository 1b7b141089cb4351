-- The stages of a tandem.
use Rattle.std.specs.Prelude.{◌≡◌, ◌≤◌, All, ℕ, List, length, drop}

-- A tandem has 2 to 4 stages, each with a list of demands, and 1 to 4 places at each stage after the first.
pub record AreStages (places : List ℕ) (demands : List (List ℕ)) : Type 0 where
  pub some : 2 ≤ length places
  pub few : length places ≤ 4
  pub each : length demands ≡ length places
  pub room : All (λ count. 1 ≤ count) (drop 1 places)
  pub narrow : All (λ count. count ≤ 4) (drop 1 places)
