-- Lists that have something at each index, and what a loop has made of one so far.
use Rattle.std.proofs.Common.{◌≡◌, ℕ, zero, suc, ◌+◌, ◌<◌, ◌≤◌, ◌++◌, Bool, true, false, List, [], ◌∷◌, Some, length, length-append, ltb, refl, sym, subst, ap, ◌∙◌, arith}
use Rattle.std.specs.Prelude.{slice_get, slice_index_or}
use Rattle.std.specs.List.{AllByRecursion as Each}
use Rattle.std.proofs.lemmas.Bool.{ltb-true}
use Rattle.std.proofs.lemmas.Bool.Decides.{nat_tests}
use Rattle.std.proofs.lemmas.Option.{get_or_from_slice_get, slice_get-get_or, slice_get_within}
use Rattle.mq_base.proofs.lemmas.Lists.{get-last, get-push, some_inj}
use Rattle.mq_crew.specs.Crew.{AreAll}

-- what holds of each item of a list with its index still does when the next has been pushed
pub pushed-at : {X : Type 0} (P : ℕ → X → Type 0) (v : ℕ) (xs xs' : List X) (y : X) → length xs ≡ v → ((u : ℕ) (x : X) → slice_get xs u ≡ Some x → P u x) → P v y → xs' ≡ xs ++ y ∷ [] → (u : ℕ) (x : X) → slice_get xs' u ≡ Some x → P u x
pushed-at P v xs xs' y len each at grown u x here = go (ap (λ l. slice_get l u) (sym grown) ∙ here) (ltb u v) refl
  where
    go : slice_get (xs ++ y ∷ []) u ≡ Some x → (b : Bool) → ltb u v ≡ b → P u x
    go there true q =
        let low = ltb-true u v q in
        each u x (sym (get-push xs y u (omega arith)) ∙ there)
    go there false q =
        let inside = slice_get_within (xs ++ y ∷ []) u x there in
        let one = length-append xs (y ∷ []) in
        let high : v ≤ u = grind (arith, nat_tests) in
        let last : u ≡ length xs = omega arith in
        let same : y ≡ x = some_inj y x (sym (get-last xs y) ∙ (ap (slice_get (xs ++ y ∷ [])) (sym last) ∙ there)) in
        subst (P u) same (subst (λ (n : ℕ). P n y) (sym (last ∙ len)) at)

-- the item at an index is among all
pub among-all : {X : Type 0} (P : ℕ → X → Type 0) (count : ℕ) (xs : List X) (b : ℕ) (x : X) → AreAll P count xs → slice_get xs b ≡ Some x → P b x
among-all P count xs b x all here =
    let inside = slice_get_within xs b x here in
    let len = all.len in
    subst (P b) (get_or_from_slice_get xs b x x here) (all.each b x (subst (λ (n : ℕ). b < n) len inside))

-- no item
pub all-none : {X : Type 0} (P : ℕ → X → Type 0) (xs : List X) → xs ≡ [] → AreAll P 0 xs
all-none P xs none = rw none (record { len = refl; each = λ b d low. absurd (omega arith) })

-- one item more
pub all-more : {X : Type 0} (P : ℕ → X → Type 0) (count : ℕ) (xs xs' : List X) (x : X) → AreAll P count xs → P count x → xs' ≡ xs ++ x ∷ [] → AreAll P (count + 1) xs'
all-more P count xs xs' x all at grown =
    let len = all.len in
    let one = length-append xs (x ∷ []) in
    let longer = ap length grown in
    let many : length xs' ≡ count + 1 = omega arith in
    record {
      len = many;
      each = λ b d l.
          pushed-at P count xs xs' x all.len (λ u y here. among-all P count xs u y all here) at grown b (slice_index_or xs' b d) (slice_get-get_or xs' b d (subst (λ (n : ℕ). b < n) (sym many) l));
    }

-- all items, once the list is given out
pub all-done : {X : Type 0} (P : ℕ → X → Type 0) (count many : ℕ) (xs xs' : List X) → AreAll P count xs → count ≡ many → xs' ≡ xs → AreAll P many xs'
all-done P count many xs xs' all end same = subst (AreAll P many) (sym same) (subst (λ (n : ℕ). AreAll P n xs) end all)

-- what each item of a list has
pub each-has : {X : Type 0} (P : X → Type 0) (xs : List X) (i : ℕ) (x : X) → Each P xs → slice_get xs i ≡ Some x → P x
each-has P [] i x h e = absurd cc
each-has P (y ∷ ys) zero x h e = subst P (some_inj y x e) h.0
each-has P (y ∷ ys) (suc i) x h e = each-has P ys i x h.1 e
