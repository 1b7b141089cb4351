-- The emission of a position, in a list of emissions that grows.
use Rattle.std.proofs.Common.{◌≡◌, ℕ, ◌<◌, ◌≤◌, Bool, true, false, cond, eqb, List, [], ◌∷◌, ◌++◌, Some, None, refl, arith, eq-eqb, ne_eqb}
use Rattle.std.specs.List.{AllByRecursion as Each}
use Rattle.mq_core.specs.Machine.{Emission}
use Rattle.mq_core.specs.Tallies.{emission_at}

-- a position past all those that were let out
pub unknown : (n p : ℕ) (ms : List Emission) → n ≤ p → Each (λ (m : Emission). m.position < n) ms → emission_at ms p ≡ None
unknown n p [] l h = refl
unknown n p (m ∷ ms) l h = rw (ne_eqb m.position p (λ e. let a = h.0 in omega arith)) (unknown n p ms l h.1)

-- one more emission, of this position
pub found-behind : (p : ℕ) (ms : List Emission) (m : Emission) → m.position ≡ p → emission_at ms p ≡ None → emission_at (ms ++ m ∷ []) p ≡ Some m
found-behind p [] m same h = rw (eq-eqb m.position p same) refl
found-behind p (n ∷ ms) m same h = go (eqb n.position p) h (found-behind p ms m same)
  where
    go : (b : Bool) → cond b (Some n) (emission_at ms p) ≡ None → (emission_at ms p ≡ None → emission_at (ms ++ m ∷ []) p ≡ Some m) → cond b (Some n) (emission_at (ms ++ m ∷ []) p) ≡ Some m
    go true h ih = absurd cc
    go false h ih = ih h

-- one more emission, of another position
pub other-behind : (p : ℕ) (ms : List Emission) (m : Emission) → (m.position ≡ p → ⊥) → emission_at (ms ++ m ∷ []) p ≡ emission_at ms p
other-behind p [] m other = rw (ne_eqb m.position p other) refl
other-behind p (n ∷ ms) m other = go (eqb n.position p) (other-behind p ms m other)
  where
    go : (b : Bool) → emission_at (ms ++ m ∷ []) p ≡ emission_at ms p → cond b (Some n) (emission_at (ms ++ m ∷ []) p) ≡ cond b (Some n) (emission_at ms p)
    go true ih = refl
    go false ih = ih
