-- Sums over positions, and visits by position.
use Rattle.std.proofs.Common.{◌≡◌, ℕ, zero, suc, ◌+◌, ◌*◌, ◌<◌, ◌≤◌, List, [], ◌∷◌, length, refl, arith}
use Rattle.std.proofs.Math.Nat.{add-mul}
use Rattle.std.specs.Prelude.{slice_get}
use Rattle.std.specs.List.{AllByRecursion as Each}
use Rattle.mq_core.specs.Machine.{Visit}
use Rattle.mq_core.specs.Tallies.{sum_below, arrival_or}

pub sum-same : (n : ℕ) (f g : ℕ → ℕ) → ((k : ℕ) → k < n → f k ≡ g k) → sum_below n f ≡ sum_below n g
sum-same zero f g h = refl
sum-same (suc n) f g h = omega (arith, h n (omega arith), sum-same n f g (λ k l. h k (omega arith)))

-- nothing at each position sums up to nothing
pub sum-none : (n : ℕ) (f : ℕ → ℕ) → ((k : ℕ) → k < n → f k ≡ 0) → sum_below n f ≡ 0
sum-none zero f h = refl
sum-none (suc n) f h = let a = h n (omega arith) in let b = sum-none n f (λ k l. h k (omega arith)) in omega arith

-- two sums are the sum of both at each position
pub sum-both : (n : ℕ) (f g h : ℕ → ℕ) → ((k : ℕ) → h k ≡ f k + g k) → sum_below n f + sum_below n g ≡ sum_below n h
sum-both zero f g h e = refl
sum-both (suc n) f g h e = omega (arith, e n, sum-both n f g h e)

pub sum-grows : (n d : ℕ) (f g h : ℕ → ℕ) → ((k : ℕ) → k < n → f k ≡ g k + h k * d) → sum_below n f ≡ sum_below n g + sum_below n h * d
sum-grows zero d f g h e = omega arith
sum-grows (suc n) d f g h e =
    let a = e n (omega arith) in
    let b = sum-grows n d f g h (λ k l. e k (omega arith)) in
    let c = add-mul (h n) (sum_below n h) d in
    omega arith

pub get-visit : (now : ℕ) (visits : List Visit) (k : ℕ) → k < length visits → Each (λ (x : Visit). x.arrive ≤ now) visits → arrival_or 0 (slice_get visits k) ≤ now
get-visit now [] k l h = absurd (omega arith)
get-visit now (x ∷ xs) zero l h = h.0
get-visit now (x ∷ xs) (suc k) l h = get-visit now xs k (omega arith) h.1
