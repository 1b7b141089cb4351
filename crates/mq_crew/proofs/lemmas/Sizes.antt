-- How many pieces several values have.
use Rattle.std.proofs.Common.{◌≤◌, ◌*◌, ℕ, List, [], ◌∷◌, length, arith}
use Rattle.std.specs.List.{AllByRecursion}
use Rattle.mq_crew.specs.Crew.{total_size}

-- where each has at most so many
pub total-most : {P : Type 0} (most : ℕ) (size : P → ℕ) (parts : List P) → AllByRecursion (λ p. size p ≤ most) parts → total_size size parts ≤ length parts * most
total-most most size [] h = omega arith
total-most most size (p ∷ ps) h = let first = h.0 in let rest = total-most most size ps h.1 in omega arith
