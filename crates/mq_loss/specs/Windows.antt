-- What a round leaves of a window.
use Rattle.std.specs.Prelude.{ℕ, suc, Bool, true, false, List, [], ◌∷◌}

-- how many arrivals come before the first that a round changed, if all were guessed admitted
abbrev pub unchanged_in : List Bool → ℕ
unchanged_in [] = 0
unchanged_in (true ∷ outcome) = suc (unchanged_in outcome)
unchanged_in (false ∷ outcome) = 0
