-- Lists that a function makes of the items of a list, one behind the other.
use Rattle.std.proofs.Common.{◌≡◌, ℕ, zero, suc, ◌+◌, ◌≤◌, List, [], ◌∷◌, ◌++◌, length, drop, sum_by, take, Some, refl, sym, ap, ◌∙◌, arith, append_assoc, length-append}
use Rattle.std.specs.Prelude.{slice_get}
use Rattle.std.specs.List.{flat_map}
use Rattle.std.proofs.lemmas.List.{append-nil}
use Rattle.std.proofs.lemmas.List.Sums.{sum_by-append}
use Rattle.mq_base.proofs.lemmas.Lists.{some_inj}

-- one item more
flat_map-next : {X Y : Type 0} (f : X → List Y) (xs : List X) (i : ℕ) (x : X) → slice_get xs i ≡ Some x → flat_map f (take (suc i) xs) ≡ flat_map f (take i xs) ++ f x
flat_map-next f [] i x h = absurd cc
flat_map-next f (y ∷ ys) zero x h = append-nil (f y) ∙ ap f (some_inj y x h)
flat_map-next f (y ∷ ys) (suc i) x h = ap (λ l. f y ++ l) (flat_map-next f ys i x h) ∙ sym (append_assoc (f y) (flat_map f (take i ys)) (f x))

pub flat_map-more : {X Y : Type 0} (f : X → List Y) (xs : List X) (i : ℕ) (x : X) → slice_get xs i ≡ Some x → flat_map f (take (i + 1) xs) ≡ flat_map f (take i xs) ++ f x
flat_map-more f xs i x h = let next : i + 1 ≡ suc i = omega arith in ap (λ n. flat_map f (take n xs)) next ∙ flat_map-next f xs i x h

-- two functions that agree on the items of a list
pub flat_map-same : {X Y : Type 0} (f g : X → List Y) (xs : List X) → ((k : ℕ) (x : X) → slice_get xs k ≡ Some x → f x ≡ g x) → flat_map f xs ≡ flat_map g xs
flat_map-same f g [] h = refl
flat_map-same f g (x ∷ xs) h = (λ k. h zero x refl k ++ flat_map-same f g xs (λ j y e. h (suc j) y e) k)

-- those of the first items are no more than those of all
pub flat_map-less : {X Y : Type 0} (f : X → List Y) (xs : List X) (p : ℕ) → length (flat_map f (take p xs)) ≤ length (flat_map f xs)
flat_map-less f xs zero = omega arith
flat_map-less f [] (suc p) = omega arith
flat_map-less f (x ∷ xs) (suc p) =
    let a = length-append (f x) (flat_map f (take p xs)) in
    let b = length-append (f x) (flat_map f xs) in
    let rest = flat_map-less f xs p in
    omega arith

-- what lists add up to that are left from an index on, and from the next
parts-from : {X : Type 0} (f : X → ℕ) (xss : List (List X)) (i : ℕ) (xs : List X) → slice_get xss i ≡ Some xs → sum_by f (flat_map (λ ys. ys) (drop i xss)) ≡ sum_by f xs + sum_by f (flat_map (λ ys. ys) (drop (suc i) xss))
parts-from f [] i xs e = absurd cc
parts-from f (ys ∷ yss) zero xs e = sum_by-append f ys (flat_map (λ zs. zs) yss) ∙ ap (λ zs. sum_by f zs + sum_by f (flat_map (λ us. us) yss)) (some_inj ys xs e)
parts-from f (ys ∷ yss) (suc i) xs e = parts-from f yss i xs e

pub sum-part : {X : Type 0} (f : X → ℕ) (xss : List (List X)) (i : ℕ) (xs : List X) → slice_get xss i ≡ Some xs → sum_by f (flat_map (λ ys. ys) (drop i xss)) ≡ sum_by f xs + sum_by f (flat_map (λ ys. ys) (drop (i + 1) xss))
sum-part f xss i xs e = let next : suc i ≡ i + 1 = omega arith in parts-from f xss i xs e ∙ ap (λ n. sum_by f xs + sum_by f (flat_map (λ ys. ys) (drop n xss))) next
