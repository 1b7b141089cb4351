-- A column is among others where it has an index.
use Rattle.std.proofs.Common.{◌≡◌, ◌≤◌, refl, ℕ, List, [], ◌∷◌, ◌++◌, length, arith}
use Rattle.std.specs.Prelude.{nat_lt}
use Rattle.std.proofs.lemmas.Grind.{common_steps}
use Rattle.mq_model.specs.NetworkOf.{number_in}
use Rattle.mq_model.specs.Said.{added, is_among}

among_is : (columns : List (List ℕ)) (name : List ℕ) → is_among columns name ≡ nat_lt (number_in columns name) (length columns)
among_is [] name = refl
among_is (x ∷ xs) name = let again = among_is xs name in grind (arith, common_steps, again)

-- a column that stands behind all isn't there, and is added
pub added_behind : (columns : List (List ℕ)) (name : List ℕ) → number_in columns name ≡ length columns → added columns name ≡ columns ++ name ∷ []
added_behind columns name behind = let is = among_is columns name in grind (arith, common_steps, is, behind)

-- and any other is there
pub added_among : (columns : List (List ℕ)) (name : List ℕ) → ¬ (number_in columns name ≡ length columns) → number_in columns name ≤ length columns → added columns name ≡ columns
added_among columns name other within = let is = among_is columns name in grind (arith, common_steps, is, other, within)
