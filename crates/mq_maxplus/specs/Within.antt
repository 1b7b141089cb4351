-- Bounds on numbers with minus infinity.
use Rattle.std.specs.Prelude.{ℕ, ◌≤◌}
use Rattle.mq_maxplus.specs.declared.mp.Mp.{Mp}
use Rattle.mq_maxplus.specs.declared.mp.Mp.TheVariants.{Void, At}

-- at most the bound, or minus infinity
abbrev pub IsWithin : ℕ → Mp → Type 0
IsWithin bound Void = Unit {0}
IsWithin bound (At a) = a ≤ bound
