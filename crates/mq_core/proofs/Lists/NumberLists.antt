-- Sums and greatest numbers of lists.
use Rattle.std.proofs.Common.{◌≡◌, ℕ, zero, suc, ◌+◌, ◌≤◌, List, [], ◌∷◌, Some, arith, max, fold, slice_get}
use Rattle.std.specs.List.{AllByRecursion as Each}
use Rattle.mq_core.specs.Tallies.{sum_below}
use Rattle.mq_base.proofs.lemmas.Lists.{greatest-from}

pub greatest-cons : (x : ℕ) (xs : List ℕ) → fold max 0 (x ∷ xs) ≡ max x (fold max 0 xs)
greatest-cons x xs = let one = greatest-from (max 0 x) xs in omega arith

-- the greatest is no more than a bound of all
pub greatest-least : (most : ℕ) (xs : List ℕ) → Each (λ x. x ≤ most) xs → fold max 0 xs ≤ most
greatest-least most [] h = omega arith
greatest-least most (x ∷ xs) h =
    let one = greatest-least most xs h.1 in
    let two = greatest-cons x xs in
    let here : x ≤ most = h.0 in
    omega arith

-- and no less than any
pub greatest-bounds : (xs : List ℕ) (i x : ℕ) → slice_get xs i ≡ Some x → x ≤ fold max 0 xs
greatest-bounds [] i x h = absurd cc
greatest-bounds (y ∷ xs) zero x h =
    let two = greatest-cons y xs in
    let same : y ≡ x = cc in
    omega arith
greatest-bounds (y ∷ xs) (suc i) x h =
    let one = greatest-bounds xs i x h in
    let two = greatest-cons y xs in
    omega arith

-- the first summand
pub sum_below-first : (n : ℕ) (f : ℕ → ℕ) → sum_below (suc n) f ≡ f 0 + sum_below n (λ i. f (suc i))
sum_below-first zero f = omega arith
sum_below-first (suc n) f = let one = sum_below-first n f in omega arith
