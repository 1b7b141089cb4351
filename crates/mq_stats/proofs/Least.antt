-- The least wait that so many don't pass: in a sorted list it stands behind one fewer.
use Rattle.std.proofs.Common.{◌≡◌, ℕ, zero, suc, ◌+◌, ◌-◌, ◌<◌, ◌≤◌, ◌⊎◌, inl, inr, Bool, true, false, cond, List, [], ◌∷◌, Some, length, get_or, refl, sym, ap, ◌∙◌, subst, arith, min}
use Rattle.std.specs.Prelude.{fold, nat_le, slice_get}
use Rattle.std.specs.List.{Contains, filter}
use Rattle.std.specs.List.Sorted.{IsNonDecreasing, IsPermutation}
use Rattle.std.proofs.lemmas.Bool.{cases_lt}
use Rattle.std.proofs.lemmas.Bool.Decides.{nat_tests}
use Rattle.std.proofs.lemmas.List.Elements.{Contains-get_or}
use Rattle.std.proofs.lemmas.List.Sorted.{Contains-permutation, IsPermutation-sym, length_permutation, sum_by-IsPermutation}
use Rattle.std.proofs.lemmas.Option.{get_or_from_slice_get}
use Rattle.mq_stats.proofs.Passing.{up_to, passed-yes}
use Rattle.mq_stats.specs.Percentiles.{hundredths, least_of, percentile, reaches}
use Rattle.mq_base.proofs.lemmas.Counts.{count-cons, at-most-one}

-- the items up to an index don't pass what is no less than they are
passed-up-to : (wait : ℕ) (waits : List ℕ) (i : ℕ) → i < length waits → ((k : ℕ) → k ≤ i → get_or waits k 0 ≤ wait) → i < up_to wait waits
passed-up-to wait [] i l h = absurd (omega arith)
passed-up-to wait (w ∷ waits) zero l h = let all = passed-yes wait w waits (h 0 (omega arith)) in omega arith
passed-up-to wait (w ∷ waits) (suc i) l h =
    let rest = passed-up-to wait waits i (omega arith) (λ k m. h (suc k) (omega arith)) in
    let all = passed-yes wait w waits (h 0 (omega arith)) in
    omega arith

is-later : (w wait : ℕ) → wait < w → 0 + cond (nat_le w wait) 1 0 ≡ 0
is-later w wait l = grind (arith, nat_tests)

-- those from an index on pass what is less than they are
passed-by-few : (wait : ℕ) (waits : List ℕ) (i : ℕ) → ((k : ℕ) → i ≤ k → k < length waits → wait < get_or waits k 0) → up_to wait waits ≤ i
passed-by-few wait [] i h = omega arith
passed-by-few wait (w ∷ waits) zero h =
    let one = is-later w wait (h 0 (omega arith) (omega arith)) in
    let rest = passed-by-few wait waits 0 (λ k a b. h (suc k) (omega arith) (omega arith)) in
    let all = count-cons (λ x. nat_le x wait) w waits in
    omega arith
passed-by-few wait (w ∷ waits) (suc i) h =
    let rest = passed-by-few wait waits i (λ k a b. h (suc k) (omega arith) (omega arith)) in
    let all = count-cons (λ x. nat_le x wait) w waits in
    let one = at-most-one (nat_le w wait) in
    omega arith

min-left : (a b : ℕ) → a ≤ b → min a b ≡ a
min-left a b l = grind (arith, nat_tests)

min-right : (a b : ℕ) → b ≤ a → min a b ≡ b
min-right a b l = grind (arith, nat_tests)

below-both : (w a b : ℕ) → w ≤ a → w ≤ b → w ≤ min a b
below-both w a b l m = grind (arith, nat_tests)

-- An item that no other that passes a test is less than is the least of those that pass it.
stays-least : (test : ℕ → Bool) (w : ℕ) → ((v : ℕ) → test v ≡ true → w ≤ v) → (xs : List ℕ) → fold min w (filter test xs) ≡ w
stays-least test w low [] = refl
stays-least test w low (x ∷ xs) = go (test x) refl (stays-least test w low xs)
  where
    go : (b : Bool) → test x ≡ b → fold min w (filter test xs) ≡ w → fold min w (cond b (x ∷ filter test xs) (filter test xs)) ≡ w
    go true e rest = ap (λ m. fold min m (filter test xs)) (min-left w x (low x e)) ∙ rest
    go false e rest = rest

becomes-least : (test : ℕ → Bool) (w : ℕ) → test w ≡ true → ((v : ℕ) → test v ≡ true → w ≤ v) → (a : ℕ) → w ≤ a → (xs : List ℕ) (k : ℕ) → k < length xs → get_or xs k w ≡ w → fold min a (filter test xs) ≡ w
becomes-least test w t low a l [] k m e = absurd (omega arith)
becomes-least test w t low a l (x ∷ xs) zero m e =
    ap (λ b. fold min a (cond b (x ∷ filter test xs) (filter test xs))) (ap test e ∙ t)
    ∙ (ap (λ n. fold min n (filter test xs)) (ap (min a) e ∙ min-right a w l) ∙ stays-least test w low xs)
becomes-least test w t low a l (x ∷ xs) (suc k) m e = go (test x) refl (λ b n. becomes-least test w t low b n xs k (omega arith) e)
  where
    go : (b : Bool) → test x ≡ b → ((b : ℕ) → w ≤ b → fold min b (filter test xs) ≡ w) → fold min a (cond b (x ∷ filter test xs) (filter test xs)) ≡ w
    go true p rest = rest (min a x) (below-both w a x l (low x p))
    go false p rest = rest a l

pub least-is : (test : ℕ → Bool) (w : ℕ) → test w ≡ true → ((v : ℕ) → test v ≡ true → w ≤ v) → (xs : List ℕ) (k : ℕ) → k < length xs → get_or xs k w ≡ w → least_of (filter test xs) ≡ w
least-is test w t low [] k m e = absurd (omega arith)
least-is test w t low (x ∷ xs) zero m e =
    ap (λ b. least_of (cond b (x ∷ filter test xs) (filter test xs))) (ap test e ∙ t)
    ∙ (ap (λ n. fold min n (filter test xs)) e ∙ stays-least test w low xs)
least-is test w t low (x ∷ xs) (suc k) m e = go (test x) refl (least-is test w t low xs k (omega arith) e)
  where
    go : (b : Bool) → test x ≡ b → least_of (filter test xs) ≡ w → least_of (cond b (x ∷ filter test xs) (filter test xs)) ≡ w
    go true p rest = becomes-least test w t low x (low x p) xs k (omega arith) e
    go false p rest = rest

pub at-least : (many n : ℕ) → many ≤ n → nat_le many n ≡ true
at-least many n l = grind (arith, nat_tests)

pub reached : (many n : ℕ) → nat_le many n ≡ true → many ≤ n
reached many n e = grind (arith, nat_tests)

-- In a sorted list the last of so many items is the least that at least as many don't pass.
pub least-at : (waits sorted : List ℕ) (many w : ℕ) → IsPermutation waits sorted → IsNonDecreasing sorted → 0 < many → many ≤ length sorted → slice_get sorted (many - 1) ≡ Some w → least_of (filter (reaches many waits) waits) ≡ w
least-at waits sorted many w p up some most g =
    least-is (reaches many waits) w (at-least many (up_to w waits) enough) low waits here.0 here.1 here.2
  where
    here-is : get_or sorted (many - 1) 0 ≡ w
    here-is = get_or_from_slice_get sorted (many - 1) w 0 g

    counts : (v : ℕ) → up_to v sorted ≡ up_to v waits
    counts v = sum_by-IsPermutation (λ x. cond (nat_le x v) 1 0) waits sorted p

    enough : many ≤ up_to w waits
    enough =
        let all = passed-up-to w sorted (many - 1) (omega arith) (λ k l. let rises = up k (many - 1) 0 l (omega arith) in omega (arith, here-is)) in
        let same = counts w in
        omega arith

    low : (v : ℕ) → reaches many waits v ≡ true → w ≤ v
    low v e = go (cases_lt v w)
      where
        go : (v < w) ⊎ (w ≤ v) → w ≤ v
        go (inl l) =
            let few = passed-by-few v sorted (many - 1) (λ k a b. let rises = up (many - 1) k 0 a b in omega (arith, here-is)) in
            let same = counts v in
            let enough = reached many (up_to v waits) e in
            absurd (omega arith)
        go (inr l) = l

    here : Contains waits w
    here = Contains-permutation sorted waits w (IsPermutation-sym waits sorted p) (subst (Contains sorted) here-is (Contains-get_or sorted (many - 1) 0 (omega arith)))

-- The same by hundredths: where there is no wait it is 0.
pub percentile-is : (p : ℕ) (waits sorted : List ℕ) (many w : ℕ) → IsPermutation waits sorted → IsNonDecreasing sorted → many ≡ hundredths p (length waits) → many ≤ length sorted → (0 < length waits → 0 < many) →
    (many ≡ 0 → w ≡ 0) → (0 < many → slice_get sorted (many - 1) ≡ Some w) → w ≡ percentile p waits
percentile-is p [] sorted many w moved up e most some none is =
    let same = length_permutation [] sorted moved in
    none (omega arith)
percentile-is p (x ∷ xs) sorted many w moved up e most some none is =
    let there = some (omega arith) in
    let waits : List ℕ = x ∷ xs in
    sym (least-at waits sorted many w moved up there most (is there)) ∙ ap (λ m. least_of (filter (reaches m waits) waits)) e
