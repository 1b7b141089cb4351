-- The ranges of numbers and demands in a model, and the column that a demand mentions.
use Rattle.std.specs.Prelude.{Bool, List, [], nat_le, nat_lt, true, ℕ, ◌&&◌, ◌^◌, ◌∷◌}
use Rattle.mq_core.specs.declared.model.Demand.{Demand}
use Rattle.mq_core.specs.declared.model.Demand.TheVariants.{Column, Fixed}

-- a number between two limits, inclusive
abbrev pub is_within : ℕ → ℕ → ℕ → Bool
is_within low high n = nat_le low n && nat_le n high

-- a demand is a column that exists, or a number in its limit
abbrev pub is_sound_demand : ℕ → Demand → Bool
is_sound_demand columns (Column column) = nat_lt column columns
is_sound_demand columns (Fixed demand) = nat_le demand (2 ^ 36)

-- each number is greater than the one before it, and the first is greater than `last`
abbrev pub rises_from : ℕ → List ℕ → Bool
rises_from last [] = true
rises_from last (n ∷ ns) = nat_lt last n && rises_from n ns

-- each number is greater than the one before it
abbrev pub rises : List ℕ → Bool
rises [] = true
rises (n ∷ ns) = rises_from n ns

-- the columns that a demand mentions
abbrev pub columns_of_demand : Demand → List ℕ
columns_of_demand (Column column) = column ∷ []
columns_of_demand (Fixed demand) = []
