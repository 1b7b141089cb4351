-- Numbers below a limit.
use Rattle.std.specs.Prelude.{◌≡◌, ◌<◌, ℕ, List, Some, slice_get}

-- each of these numbers is below the limit
abbrev pub AreBelow : ℕ → List ℕ → Type 0
AreBelow limit items = (index item : ℕ) → slice_get items index ≡ Some item → item < limit
