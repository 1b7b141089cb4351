-- `Rises` of times is a proposition: any two of its proofs are equal.
use Rattle.std.specs.Coded.{Unit-prop, le_prop, ×_prop}
use Rattle.std.specs.List.{AllByRecursion-prop}
use Rattle.std.specs.Prelude.{List, [], ◌∷◌, ℕ, ◌≤◌}
use Rattle.mq_core.specs.Laws.{Rises}

pub rising-prop : (times : List ℕ) → IsProp (Rises (λ a b. a ≤ b) times)
rising-prop [] = Unit-prop
rising-prop (time ∷ times) = ×_prop (AllByRecursion-prop (λ later. time ≤ later) (λ later. le_prop) times) (rising-prop times)
