-- Lists by index, and what a loop has made of one so far.
use Rattle.std.proofs.Common.{◌==◌, ◌||◌, ◌&&◌, ◌≡◌, ℕ, zero, suc, ◌+◌, ◌≤◌, Bool, true, false, cond, IsTrue, List, [], ◌∷◌, ◌++◌, length, take, Some, sym, refl, ap, ◌∙◌, arith, eqb-true, subst}
use Rattle.std.specs.Prelude.{filter, slice_get}
use Rattle.std.specs.List.{AllByRecursion as Each, list_all}
use Rattle.std.proofs.lemmas.Bool.{and_parts}
use Rattle.std.proofs.lemmas.List.Folds.{list_all_at, list_all_more}
use Rattle.std.proofs.lemmas.Option.{get_or_from_slice_get, slice_get_within}
use Rattle.std.proofs.lemmas.List.{append-nil}
use Rattle.mq_base.proofs.lemmas.Lists.{some_inj}
use Rattle.mq_core.specs.Wiring.{has}

pub Each-at : {X : Type 0} (P : X → Type 0) (xs : List X) → ((k : ℕ) (x : X) → slice_get xs k ≡ Some x → P x) → Each P xs
Each-at P [] h = tt
Each-at P (x ∷ xs) h = (h zero x refl, Each-at P xs (λ k y e. h (suc k) y e))

-- a list of no length has no items
pub no-items : {X : Type 0} (xs : List X) → length xs ≡ 0 → xs ≡ []
no-items [] h = refl
no-items (x ∷ xs) h = absurd (omega arith)

-- a number that isn't 0
pub one-at-least : (n : ℕ) → (n == 0) ≡ false → 1 ≤ n
one-at-least zero h = absurd cc
one-at-least (suc n) h = omega arith

-- a list that isn't empty
pub some-item : {X : Type 0} (xs : List X) (empty : Bool) → empty ≡ false → (xs ≡ [] → IsTrue empty) → 1 ≤ length xs
some-item [] empty e h = absurd (let no = subst IsTrue e (h refl) in cc)
some-item (x ∷ xs) empty e h = omega arith

-- what a list has, and what its front has
pub has-index : (xs : List ℕ) (n : ℕ) → IsTrue (has xs n) → (q : ℕ) × (slice_get xs q ≡ Some n)
has-index [] n h = absurd cc
has-index (m ∷ ms) n h = go (m == n) refl (λ k. has-index ms n k) h
  where
    go : (b : Bool) → (m == n) ≡ b → (IsTrue (has ms n) → (q : ℕ) × (slice_get ms q ≡ Some n)) → IsTrue (b || has ms n) → (q : ℕ) × (slice_get (m ∷ ms) q ≡ Some n)
    go true e ih k = (0, ap Some (eqb-true m n e))
    go false e ih k = (suc (ih k).0, (ih k).1)

-- what all pass, each passes
pub all-get : {X : Type 0} (test : X → Bool) (xs : List X) (k : ℕ) (x : X) → list_all test xs ≡ true → slice_get xs k ≡ Some x → test x ≡ true
all-get test [] k x h e = absurd cc
all-get test (y ∷ ys) zero x h e = ap test (sym (some_inj y x e)) ∙ (and_parts (test y) (list_all test ys) h).0
all-get test (y ∷ ys) (suc k) x h e = all-get test ys k x (and_parts (test y) (list_all test ys) h).1 e

-- one item more, of what a test has kept so far
filter-next : {X : Type 0} (test : X → Bool) (xs : List X) (i : ℕ) (x : X) → slice_get xs i ≡ Some x → filter test (take (suc i) xs) ≡ filter test (take i xs) ++ filter test (x ∷ [])
filter-next test [] i x h = absurd cc
filter-next test (y ∷ ys) zero x h = ap (λ z. filter test (z ∷ [])) (some_inj y x h)
filter-next test (y ∷ ys) (suc i) x h = go (test y) refl (filter-next test ys i x h)
  where
    go : (b : Bool) → test y ≡ b → filter test (take (suc i) ys) ≡ filter test (take i ys) ++ filter test (x ∷ []) → cond b (y ∷ filter test (take (suc i) ys)) (filter test (take (suc i) ys)) ≡ cond b (y ∷ filter test (take i ys)) (filter test (take i ys)) ++ filter test (x ∷ [])
    go true e ih = ap (λ l. y ∷ l) ih
    go false e ih = ih

pub filter-kept : {X : Type 0} (test : X → Bool) (xs : List X) (i : ℕ) (x : X) (done done' : List X) → slice_get xs i ≡ Some x → test x ≡ true → done' ≡ done ++ x ∷ [] → done ≡ filter test (take i xs) → done' ≡ filter test (take (i + 1) xs)
filter-kept test xs i x done done' h t p k =
    let next : suc i ≡ i + 1 = omega arith in
    p ∙ (ap (λ l. l ++ x ∷ []) k ∙ (ap (λ b. filter test (take i xs) ++ cond b (x ∷ []) []) (sym t) ∙ (sym (filter-next test xs i x h) ∙ ap (λ n. filter test (take n xs)) next)))

pub filter-left : {X : Type 0} (test : X → Bool) (xs : List X) (i : ℕ) (x : X) (done : List X) → slice_get xs i ≡ Some x → test x ≡ false → done ≡ filter test (take i xs) → done ≡ filter test (take (i + 1) xs)
filter-left test xs i x done h t k =
    let next : suc i ≡ i + 1 = omega arith in
    k ∙ (sym (append-nil (filter test (take i xs))) ∙ (ap (λ b. filter test (take i xs) ++ cond b (x ∷ []) []) (sym t) ∙ (sym (filter-next test xs i x h) ∙ ap (λ n. filter test (take n xs)) next)))

-- what is kept passes the test
pub filter-passes : {X : Type 0} (test : X → Bool) (xs : List X) (k : ℕ) (x : X) → slice_get (filter test xs) k ≡ Some x → test x ≡ true
filter-passes test [] k x e = absurd cc
filter-passes test (y ∷ ys) k x e = go (test y) refl k e (λ j g. filter-passes test ys j x g)
  where
    go : (b : Bool) → test y ≡ b → (j : ℕ) → slice_get (cond b (y ∷ filter test ys) (filter test ys)) j ≡ Some x → ((i : ℕ) → slice_get (filter test ys) i ≡ Some x → test x ≡ true) → test x ≡ true
    go true t zero g ih = ap test (sym (some_inj y x g)) ∙ t
    go true t (suc j) g ih = ih j g
    go false t j g ih = ih j g

-- where none is kept, each fails the test
pub filter-none : {X : Type 0} (test : X → Bool) (xs : List X) (k : ℕ) (x : X) → filter test xs ≡ [] → slice_get xs k ≡ Some x → test x ≡ false
filter-none test [] k x h e = absurd cc
filter-none test (y ∷ ys) k x h e = go (test y) refl k h e (λ j a b. filter-none test ys j x a b)
  where
    go : (b : Bool) → test y ≡ b → (j : ℕ) → cond b (y ∷ filter test ys) (filter test ys) ≡ [] → slice_get (y ∷ ys) j ≡ Some x → ((i : ℕ) → filter test ys ≡ [] → slice_get ys i ≡ Some x → test x ≡ false) → test x ≡ false
    go true t j a b ih = absurd cc
    go false t zero a b ih = ap test (sym (some_inj y x b)) ∙ t
    go false t (suc j) a b ih = ih j a b

-- one item more that passes, and one that fails
pub all-more : {X : Type 0} (test : X → Bool) (xs : List X) (i : ℕ) (x : X) → slice_get xs i ≡ Some x → list_all test (take i xs) ≡ true → test x ≡ true → list_all test (take (i + 1) xs) ≡ true
all-more test xs i x h all t = list_all_more test xs i x (slice_get_within xs i x h) ∙ ((λ k. all k && test (get_or_from_slice_get xs i x x h k)) ∙ t)

pub all-fails : {X : Type 0} (test : X → Bool) (xs : List X) (i : ℕ) (x : X) → slice_get xs i ≡ Some x → test x ≡ false → list_all test xs ≡ false
all-fails test xs i x h t = list_all_at test xs i x (slice_get_within xs i x h) (ap test (get_or_from_slice_get xs i x x h) ∙ t)
