-- What is worked out of the fates of the visits of a node, summed by position.
use Rattle.std.proofs.Common.{List, Some, [], ap, arith, refl, slice_get, length, suc, sum, ℕ, ◌+◌, ◌∙◌, ◌∷◌, ◌≡◌}
use Rattle.mq_base.proofs.lemmas.Lists.{sum-cons}
use Rattle.mq_core.specs.Fates.{fate_of}
use Rattle.mq_core.specs.Local.{Local}
use Rattle.mq_core.specs.Machine.{Station, Visit}
use Rattle.mq_core.specs.Results.{fates_from, or_held}
use Rattle.mq_core.specs.Tallies.{sum_below}
use Rattle.mq_core.specs.declared.model.Fate.{Fate}
use Rattle.mq_core.specs.declared.model.Kind.{Kind}
use Rattle.mq_core.proofs.Lists.NumberLists.{sum_below-first}

-- what is worked out of each visit and its fate
abbrev pub values : (Visit → Fate → ℕ) → List Visit → List Fate → List ℕ
values g [] fates = []
values g (x ∷ xs) [] = []
values g (x ∷ xs) (fate ∷ fates) = g x fate ∷ values g xs fates

module _ (kind : Kind) (s : Station Local) (g : Visit → Fate → ℕ) where
  -- the number of each position is that of its visit and its fate
  abbrev pub Gives : ℕ → List Visit → (ℕ → ℕ) → Type 0
  Gives k xs h = (i : ℕ) (x : Visit) → slice_get xs i ≡ Some x → h i ≡ g x (or_held (fate_of kind s (k + i)))

  gives-later : (k : ℕ) (x : Visit) (xs : List Visit) (h : ℕ → ℕ) → Gives k (x ∷ xs) h → Gives (suc k) xs (λ i. h (suc i))
  gives-later k x xs h gives i y e = let index : k + suc i ≡ suc k + i = omega arith in gives (suc i) y e ∙ ap (λ n. g y (or_held (fate_of kind s n))) index

  pub sum-values : (k : ℕ) (xs : List Visit) (h : ℕ → ℕ) → Gives k xs h → sum (values g xs (fates_from kind s k xs)) ≡ sum_below (length xs) h
  sum-values k [] h gives = refl
  sum-values k (x ∷ xs) h gives =
      let index : k + 0 ≡ k = omega arith in
      let own : h 0 ≡ g x (or_held (fate_of kind s k)) = gives 0 x refl ∙ ap (λ n. g x (or_held (fate_of kind s n))) index in
      let rest = sum-values (suc k) xs (λ i. h (suc i)) (gives-later k x xs h gives) in
      let one = sum-cons (g x (or_held (fate_of kind s k))) (values g xs (fates_from kind s (suc k) xs)) in
      let two = sum_below-first (length xs) h in
      omega arith
