-- Parts of lists.
use Rattle.std.specs.Prelude.{ℕ, ◌-◌, List, drop, take}

-- the items from an index up to another
abbrev pub between : {X : Type 0} → ℕ → ℕ → List X → List X
between from to items = take (to - from) (drop from items)
