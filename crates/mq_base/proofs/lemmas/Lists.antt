-- Lists by index: what is left from an index on, first parts, an item more at the end.
use Rattle.std.proofs.Common.{◌≡◌, ◌≢◌, ℕ, zero, suc, ◌+◌, ◌<◌, ◌≤◌, List, [], ◌∷◌, ◌++◌, drop, fold, length, length-append, map, max, set, take, Some, None, refl, ap, ◌∙◌, arith, sym}
use Rattle.std.proofs.Math.Seq.{take-append_seam}
use Rattle.std.proofs.lemmas.List.Sums.{sum_by-cons}
use Rattle.std.proofs.lemmas.Option.{slice_get-map}
use Rattle.std.specs.List.{Contains}
use Rattle.std.specs.Option.{option_map}
use Rattle.std.specs.Prelude.{slice_get, sum}

pub some_inj : {A : Type 0} (a b : A) → Some a ≡ Some b → a ≡ b
some_inj a b h = cc

-- what is left from an index on begins with the item there
pub drop_suc : {X : Type 0} (xs : List X) (i : ℕ) (x : X) → slice_get xs i ≡ Some x → drop i xs ≡ x ∷ drop (suc i) xs
drop_suc [] i x h = absurd cc
drop_suc (y ∷ ys) zero x h = ap (λ z. z ∷ ys) (some_inj y x h)
drop_suc (y ∷ ys) (suc i) x h = drop_suc ys i x h

pub drop_at : {X : Type 0} (xs : List X) (i : ℕ) (x : X) → slice_get xs i ≡ Some x → drop i xs ≡ x ∷ drop (i + 1) xs
drop_at xs i x h = let next : suc i ≡ i + 1 = omega arith in drop_suc xs i x h ∙ ap (λ n. x ∷ drop n xs) next

-- the first items with one more
pub take-at : {X : Type 0} (xs : List X) (i : ℕ) (x : X) → slice_get xs i ≡ Some x → take (i + 1) xs ≡ take i xs ++ x ∷ []
take-at [] i x h = absurd cc
take-at (y ∷ ys) zero x h = ap (λ z. z ∷ []) (some_inj y x h)
take-at (y ∷ ys) (suc i) x h = let next : suc i + 1 ≡ suc (i + 1) = omega arith in ap (λ n. take n (y ∷ ys)) next ∙ ap (λ l. y ∷ l) (take-at ys i x h)

-- the first of more items than there are
pub take-all : {X : Type 0} (xs : List X) (i : ℕ) → length xs ≤ i → take i xs ≡ xs
take-all [] zero h = refl
take-all [] (suc i) h = refl
take-all (x ∷ xs) zero h = absurd (omega arith)
take-all (x ∷ xs) (suc i) h = ap (λ l. x ∷ l) (take-all xs i (omega arith))

-- a slice of all items, written back
pub written-back : {X : Type 0} (new old : List X) (n : ℕ) → length new ≡ n → take n (new ++ drop (length new) old) ≡ new
written-back new old n e = ap (λ m. take m (new ++ drop (length new) old)) (sym e) ∙ take-append_seam new (drop (length new) old)

pub map-all : {X Y : Type 0} (f : X → Y) (xs : List X) (i : ℕ) (done : List Y) → length xs ≤ i → done ≡ map f (take i xs) → done ≡ map f xs
map-all f xs i done h k = k ∙ ap (map f) (take-all xs i h)

-- the item at an index within, and none behind the last
pub get-some : {X : Type 0} (xs : List X) (i : ℕ) → i < length xs → (x : X) × (slice_get xs i ≡ Some x)
get-some [] i l = absurd (omega arith)
get-some (x ∷ xs) zero l = (x, refl)
get-some (x ∷ xs) (suc i) l = get-some xs i (omega arith)

pub get-none : {X : Type 0} (xs : List X) (i : ℕ) → length xs ≤ i → slice_get xs i ≡ None
get-none [] i l = refl
get-none (x ∷ xs) zero l = absurd (omega arith)
get-none (x ∷ xs) (suc i) l = get-none xs i (omega arith)

-- the item of a list that a function makes of the items
pub get-map : {X Y : Type 0} (f : X → Y) (xs : List X) (i : ℕ) (x : X) → slice_get xs i ≡ Some x → slice_get (map f xs) i ≡ Some (f x)
get-map f xs i x e = slice_get-map f xs i ∙ ap (option_map f) e

-- an item of the first of two lists
pub get-front : {X : Type 0} (xs ys : List X) (i : ℕ) → i < length xs → slice_get (xs ++ ys) i ≡ slice_get xs i
get-front [] ys i l = absurd (omega arith)
get-front (x ∷ xs) ys zero l = refl
get-front (x ∷ xs) ys (suc i) l = get-front xs ys i (omega arith)

-- a list that grew by an item
pub get-push : {X : Type 0} (xs : List X) (x : X) (k : ℕ) → k < length xs → slice_get (xs ++ x ∷ []) k ≡ slice_get xs k
get-push xs x k l = get-front xs (x ∷ []) k l

pub get-last : {X : Type 0} (xs : List X) (x : X) → slice_get (xs ++ x ∷ []) (length xs) ≡ Some x
get-last [] x = refl
get-last (y ∷ xs) x = get-last xs x

-- without its last a list is shorter
pub last-shorter : {X : Type 0} (xs rest : List X) (x : X) → xs ≡ rest ++ x ∷ [] → length rest < length xs
last-shorter xs rest x e = let all = ap length e in let more = length-append rest (x ∷ []) in omega arith

-- an item of the first ones
pub get-take : {X : Type 0} (xs : List X) (n k : ℕ) (x : X) → slice_get (take n xs) k ≡ Some x → (k < n) × (slice_get xs k ≡ Some x)
get-take [] zero k x h = absurd cc
get-take [] (suc n) k x h = absurd cc
get-take (y ∷ ys) zero k x h = absurd cc
get-take (y ∷ ys) (suc n) zero x h = (omega arith, h)
get-take (y ∷ ys) (suc n) (suc k) x h = let r = get-take ys n k x h in (let l = r.0 in omega arith, r.1)

-- an index that is written, and the others
pub get-set_same : {X : Type 0} (xs : List X) (i : ℕ) (x : X) → i < length xs → slice_get (set xs i x) i ≡ Some x
get-set_same [] i x l = absurd (omega arith)
get-set_same (y ∷ ys) zero x l = refl
get-set_same (y ∷ ys) (suc i) x l = get-set_same ys i x (omega arith)

pub get-set_other : {X : Type 0} (xs : List X) (i j : ℕ) (x : X) → j ≢ i → slice_get (set xs i x) j ≡ slice_get xs j
get-set_other [] i j x l = refl
get-set_other (y ∷ ys) zero zero x l = absurd (l refl)
get-set_other (y ∷ ys) zero (suc j) x l = refl
get-set_other (y ∷ ys) (suc i) zero x l = refl
get-set_other (y ∷ ys) (suc i) (suc j) x l = get-set_other ys i j x (λ e. l (ap suc e))

-- the sum of a list with one number before it
pub sum-cons : (x : ℕ) (xs : List ℕ) → sum (x ∷ xs) ≡ x + sum xs
sum-cons x xs = sum_by-cons (λ y. y) x xs

-- the greatest number of a list and of one before it
pub greatest-from : (a : ℕ) (xs : List ℕ) → fold max a xs ≡ max a (fold max 0 xs)
greatest-from a [] = omega arith
greatest-from a (x ∷ xs) =
    let one = greatest-from (max a x) xs in
    let two = greatest-from (max 0 x) xs in
    omega arith

-- the item of a list of one
pub only : {X : Type 0} (x y : X) → Contains (x ∷ []) y → y ≡ x
only x y (zero, lt, e) = sym e
only x y (suc k, lt, e) = absurd (omega arith)
