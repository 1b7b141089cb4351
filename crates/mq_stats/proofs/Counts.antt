-- Departures in order: those that are gone stand before the others.
use Rattle.std.proofs.Common.{◌≡◌, ℕ, zero, suc, ◌+◌, ◌<◌, ◌≤◌, Bool, true, false, cond, List, [], ◌∷◌, length, get_or, refl, ap, ◌∙◌, arith}
use Rattle.std.specs.Prelude.{count_by}
use Rattle.std.proofs.lemmas.Bool.Decides.{nat_tests}
use Rattle.mq_stats.specs.Departures.{Ascends, is_gone}
use Rattle.mq_base.proofs.lemmas.Counts.{at-most-one}
pub use Rattle.mq_base.proofs.lemmas.Counts.{count-cons}

still-by : (time position a b c d : ℕ) → a ≤ c → (a ≡ c → b ≤ d) → is_gone time position (a, b) ≡ false → is_gone time position (c, d) ≡ false
still-by time position a b c d l e h = grind (arith, nat_tests)

-- what follows one that isn't gone isn't gone
none : (time position : ℕ) (x : ℕ × ℕ) (xs : List (ℕ × ℕ)) → Ascends (x ∷ xs) → is_gone time position x ≡ false → count_by (is_gone time position) (x ∷ xs) ≡ 0
none time position x [] c h = count-cons (is_gone time position) x [] ∙ ap (λ b. cond b 1 0 + 0) h
none time position x (y ∷ ys) c h =
    let rest = none time position y ys c.1 (still-by time position x.0 x.1 y.0 y.1 c.0.0.0 c.0.0.1 h) in
    count-cons (is_gone time position) x (y ∷ ys) ∙ (ap (λ b. cond b 1 0 + count_by (is_gone time position) (y ∷ ys)) h ∙ ap (λ n. 0 + n) rest)

-- where one isn't gone no more are than stand before it
pub not-gone : (time position : ℕ) (xs : List (ℕ × ℕ)) (i : ℕ) (d : ℕ × ℕ) → Ascends xs → i < length xs → is_gone time position (get_or xs i d) ≡ false → count_by (is_gone time position) xs ≤ i
not-gone time position [] i d c l h = absurd (omega arith)
not-gone time position (x ∷ xs) zero d c l h = let e = none time position x xs c h in omega arith
not-gone time position (x ∷ xs) (suc i) d c l h =
    let rest = not-gone time position xs i d c.1 (omega arith) h in
    let whole = count-cons (is_gone time position) x xs in
    let one = at-most-one (is_gone time position x) in
    omega arith

-- where one is gone all before it are
pub one-gone : (time position : ℕ) (xs : List (ℕ × ℕ)) (i : ℕ) (d : ℕ × ℕ) → Ascends xs → i < length xs → is_gone time position (get_or xs i d) ≡ true → i < count_by (is_gone time position) xs
one-gone time position [] i d c l h = absurd (omega arith)
one-gone time position (x ∷ xs) zero d c l h =
    let whole = count-cons (is_gone time position) x xs ∙ ap (λ b. cond b 1 0 + count_by (is_gone time position) xs) h in
    omega arith
one-gone time position (x ∷ xs) (suc i) d c l h = go (is_gone time position x) refl (one-gone time position xs i d c.1 (omega arith) h)
  where
    go : (b : Bool) → is_gone time position x ≡ b → i < count_by (is_gone time position) xs → suc i < count_by (is_gone time position) (x ∷ xs)
    go true e r =
        let whole = count-cons (is_gone time position) x xs ∙ ap (λ b. cond b 1 0 + count_by (is_gone time position) xs) e in
        omega arith
    go false e r =
        let whole = count-cons (is_gone time position) x xs ∙ ap (λ b. cond b 1 0 + count_by (is_gone time position) xs) e in
        let empty = none time position x xs c e in
        absurd (omega arith)
