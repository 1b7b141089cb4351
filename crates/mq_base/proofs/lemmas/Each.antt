-- What holds of each item of a list, and what a filter keeps.
use Rattle.std.proofs.Common.{◌≡◌, ℕ, zero, suc, ◌<◌, Bool, true, false, cond, List, [], ◌∷◌, ◌++◌, length, drop, take, get_or, Some, ap, sym, ◌∙◌, refl, subst, arith}
use Rattle.std.specs.Prelude.{filter, map, slice_get, ◌&&◌}
use Rattle.std.specs.List.{AllByRecursion as Each, flat_map}
use Rattle.mq_base.proofs.lemmas.Lists.{some_inj}

pub Each-append : {X : Type 0} (P : X → Type 0) (xs ys : List X) → Each P xs → Each P ys → Each P (xs ++ ys)
Each-append P [] ys p q = q
Each-append P (x ∷ xs) ys p q = (p.0, Each-append P xs ys p.1 q)

pub Each-front : {X : Type 0} (P : X → Type 0) (xs ys : List X) → Each P (xs ++ ys) → Each P xs
Each-front P [] ys p = tt
Each-front P (x ∷ xs) ys p = (p.0, Each-front P xs ys p.1)

pub Each-back : {X : Type 0} (P : X → Type 0) (xs ys : List X) → Each P (xs ++ ys) → Each P ys
Each-back P [] ys p = p
Each-back P (x ∷ xs) ys p = Each-back P xs ys p.1

pub Each-weaker : {X : Type 0} (P Q : X → Type 0) → ((x : X) → P x → Q x) → (xs : List X) → Each P xs → Each Q xs
Each-weaker P Q f [] p = tt
Each-weaker P Q f (x ∷ xs) p = (f x p.0, Each-weaker P Q f xs p.1)

pub Each-both : {X : Type 0} (P Q R : X → Type 0) → ((x : X) → P x → Q x → R x) → (xs : List X) → Each P xs → Each Q xs → Each R xs
Each-both P Q R f [] p q = tt
Each-both P Q R f (x ∷ xs) p q = (f x p.0 q.0, Each-both P Q R f xs p.1 q.1)

-- in every part
pub Each-drop : {X : Type 0} (P : X → Type 0) (n : ℕ) (xs : List X) → Each P xs → Each P (drop n xs)
Each-drop P zero xs h = h
Each-drop P (suc n) [] h = tt
Each-drop P (suc n) (x ∷ xs) h = Each-drop P n xs h.1

pub Each-take : {X : Type 0} (P : X → Type 0) (n : ℕ) (xs : List X) → Each P xs → Each P (take n xs)
Each-take P zero xs h = tt
Each-take P (suc n) [] h = tt
Each-take P (suc n) (x ∷ xs) h = (h.0, Each-take P n xs h.1)

each-cond : {X : Type 0} (P : X → Type 0) (x : X) (xs : List X) (b : Bool) → P x → Each P xs → Each P (cond b (x ∷ xs) xs)
each-cond P x xs true p q = (p, q)
each-cond P x xs false p q = q

-- what a filter keeps has what all have
pub Each-filter : {X : Type 0} (P : X → Type 0) (test : X → Bool) (xs : List X) → Each P xs → Each P (filter test xs)
Each-filter P test [] p = tt
Each-filter P test (x ∷ xs) p = each-cond P x (filter test xs) (test x) p.0 (Each-filter P test xs p.1)

each-cond_if : {X : Type 0} (P : X → Type 0) (x : X) (xs : List X) (b : Bool) → (b ≡ true → P x) → Each P xs → Each P (cond b (x ∷ xs) xs)
each-cond_if P x xs true p q = (p refl, q)
each-cond_if P x xs false p q = q

-- what a filter keeps has what passing the test gives
pub Each-filter_if : {X : Type 0} (P : X → Type 0) (test : X → Bool) (xs : List X) → Each (λ x. test x ≡ true → P x) xs → Each P (filter test xs)
Each-filter_if P test [] p = tt
Each-filter_if P test (x ∷ xs) p = each-cond_if P x (filter test xs) (test x) p.0 (Each-filter_if P test xs p.1)

-- a test that none passes keeps nothing
pub filter-none : {X : Type 0} (test : X → Bool) (xs : List X) → Each (λ x. test x ≡ false) xs → filter test xs ≡ []
filter-none test [] p = refl
filter-none test (x ∷ xs) p = rw p.0 (filter-none test xs p.1)

pub filter-all : {X : Type 0} (test : X → Bool) (xs : List X) → Each (λ x. test x ≡ true) xs → filter test xs ≡ xs
filter-all test [] p = refl
filter-all test (x ∷ xs) p = rw p.0 (ap (λ l. x ∷ l) (filter-all test xs p.1))

-- a filter at the head
pub filter-yes : {X : Type 0} (test : X → Bool) (x : X) (xs : List X) → test x ≡ true → filter test (x ∷ xs) ≡ x ∷ filter test xs
filter-yes test x xs p = rw p refl

pub filter-no : {X : Type 0} (test : X → Bool) (x : X) (xs : List X) → test x ≡ false → filter test (x ∷ xs) ≡ filter test xs
filter-no test x xs p = rw p refl

pub not_true : (b : Bool) → (b ≡ true → ⊥) → b ≡ false
not_true true h = absurd (h refl)
not_true false h = refl

pub Each-flat_map : {X Y : Type 0} (P : X → Type 0) (Q : Y → Type 0) (f : X → List Y) → ((x : X) → P x → Each Q (f x)) → (xs : List X) → Each P xs → Each Q (flat_map f xs)
Each-flat_map P Q f h [] p = tt
Each-flat_map P Q f h (x ∷ xs) p = Each-append Q (f x) (flat_map f xs) (h x p.0) (Each-flat_map P Q f h xs p.1)

pub Each-map : {X Y : Type 0} (P : X → Type 0) (Q : Y → Type 0) (f : X → Y) → ((x : X) → P x → Q (f x)) → (xs : List X) → Each P xs → Each Q (map f xs)
Each-map P Q f h [] p = tt
Each-map P Q f h (x ∷ xs) p = (h x p.0, Each-map P Q f h xs p.1)

pub Each-any : {X : Type 0} (P : X → Type 0) → ((x : X) → P x) → (xs : List X) → Each P xs
Each-any P h [] = tt
Each-any P h (x ∷ xs) = (h x, Each-any P h xs)

-- two filters in turn
cond_and : {X : Type 0} (a b : X → Bool) (x : X) (xs : List X) (c : Bool) → a x ≡ c → filter (λ y. a y && b y) xs ≡ filter b (filter a xs) → cond (c && b x) (x ∷ filter (λ y. a y && b y) xs) (filter (λ y. a y && b y) xs) ≡ filter b (cond c (x ∷ filter a xs) (filter a xs))
cond_and a b x xs true h ih = ap (λ l. cond (b x) (x ∷ l) l) ih
cond_and a b x xs false h ih = ih

pub filter-and : {X : Type 0} (a b : X → Bool) (xs : List X) → filter (λ x. a x && b x) xs ≡ filter b (filter a xs)
filter-and a b [] = refl
filter-and a b (x ∷ xs) = cond_and a b x xs (a x) refl (filter-and a b xs)

and_comm' : (a b : Bool) → (a && b) ≡ (b && a)
and_comm' true true = refl
and_comm' true false = refl
and_comm' false true = refl
and_comm' false false = refl

pub filter-cong : {X : Type 0} (a b : X → Bool) → ((x : X) → a x ≡ b x) → (xs : List X) → filter a xs ≡ filter b xs
filter-cong a b h [] = refl
filter-cong a b h (x ∷ xs) = rw (h x) (ap (λ l. cond (b x) (x ∷ l) l) (filter-cong a b h xs))

pub filter-swap : {X : Type 0} (a b : X → Bool) (xs : List X) → filter a (filter b xs) ≡ filter b (filter a xs)
filter-swap a b xs = sym (filter-and b a xs) ∙ (filter-cong _ _ (λ x. and_comm' (b x) (a x)) xs ∙ filter-and a b xs)

-- what all have, the one at an index has
pub Each-get : {X : Type 0} (P : X → Type 0) (xs : List X) (k : ℕ) (x : X) → Each P xs → slice_get xs k ≡ Some x → P x
Each-get P [] k x h e = absurd cc
Each-get P (y ∷ ys) zero x h e = subst P (some_inj y x e) h.0
Each-get P (y ∷ ys) (suc k) x h e = Each-get P ys k x h.1 e

pub Each-get_or : {X : Type 0} (P : X → Type 0) (xs : List X) → Each P xs → (k : ℕ) (d : X) → k < length xs → P (get_or xs k d)
Each-get_or P [] h k d l = absurd (omega arith)
Each-get_or P (x ∷ xs) h zero d l = h.0
Each-get_or P (x ∷ xs) h (suc k) d l = Each-get_or P xs h.1 k d (omega arith)
