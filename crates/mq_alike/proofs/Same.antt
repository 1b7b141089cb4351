-- What a comparison of two runs has found so far.
use Rattle.std.proofs.Common.{◌&&◌, ◌≡◌, ℕ, suc, ◌+◌, ◌<◌, ◌≤◌, Bool, true, false, cond, List, [], ◌∷◌, length, take, drop, map, Some, slice_get, refl, ap, subst, ◌∙◌, arith, min, ◌⊎◌, inl, inr}
use Rattle.std.proofs.lemmas.Bool.{cases_lt}
use Rattle.std.specs.List.{AllByRecursion as Each, flat_map, list_all}
use Rattle.std.proofs.lemmas.List.Folds.{list_all_at, list_all_more}
use Rattle.std.proofs.lemmas.List.{drop_all}
use Rattle.std.proofs.lemmas.Option.{get_or_from_slice_get, slice_get_within}
use Rattle.mq_base.proofs.lemmas.Each.{Each-back, Each-front}
use Rattle.mq_base.proofs.lemmas.Lists.{drop_at}
use Rattle.mq_core.specs.Asked.{HasDemands}
use Rattle.mq_core.specs.Told.{AreTold, HasDemand}
use Rattle.mq_core.specs.declared.model.Demand.{Demand}
use Rattle.mq_core.specs.declared.model.Kind.{Kind}
use Rattle.mq_core.specs.declared.model.Kind.TheVariants.{ForkJoin, Tandem}
use Rattle.mq_core.specs.declared.model.Stage.{Stage}
use Rattle.mq_core.specs.declared.model.Rows.{Rows}
use Rattle.mq_alike.specs.Again.{alike_from, same_visit}

-- one item more that passes, and one that fails
pub all-more : {X : Type 0} (test : X → Bool) (xs : List X) (i : ℕ) (x : X) → slice_get xs i ≡ Some x → list_all test (take i xs) ≡ true → test x ≡ true → list_all test (take (i + 1) xs) ≡ true
all-more test xs i x h all t = list_all_more test xs i x (slice_get_within xs i x h) ∙ ((λ k. all k && test (get_or_from_slice_get xs i x x h k)) ∙ t)

pub all-fails : {X : Type 0} (test : X → Bool) (xs : List X) (i : ℕ) (x : X) → slice_get xs i ≡ Some x → test x ≡ false → list_all test xs ≡ false
all-fails test xs i x h t = list_all_at test xs i x (slice_get_within xs i x h) (ap test (get_or_from_slice_get xs i x x h) ∙ t)

-- of each item of a mapped list, and of each list that is put together
pub of-map : {X Y : Type 0} (P : Y → Type 0) (f : X → Y) (xs : List X) → Each P (map f xs) → Each (λ x. P (f x)) xs
of-map P f [] h = tt
of-map P f (x ∷ xs) h = (h.0, of-map P f xs h.1)

pub of-flat_map : {X Y : Type 0} (P : Y → Type 0) (f : X → List Y) (xs : List X) → Each P (flat_map f xs) → Each (λ x. Each P (f x)) xs
of-flat_map P f [] h = tt
of-flat_map P f (x ∷ xs) h = (Each-front P (f x) (flat_map f xs) h, of-flat_map P f xs (Each-back P (f x) (flat_map f xs) h))

-- what a job asks for at stages and in branches, which the rows tell
pub told-stages : (rows : Rows) (kind : Kind) (stages : List Stage) (job : ℕ) → HasDemands rows kind job → kind ≡ Tandem stages → Each (λ (stage : Stage). HasDemand rows stage.demand job) stages
told-stages rows kind stages job h e =
    let told : AreTold rows (map (λ (stage : Stage). stage.demand) stages) job = subst (λ (k : Kind). HasDemands rows k job) e h in
    of-map (λ demand. HasDemand rows demand job) (λ (stage : Stage). stage.demand) stages told.each

pub told-branches : (rows : Rows) (kind : Kind) (branches : List (List Demand)) (job : ℕ) → HasDemands rows kind job → kind ≡ ForkJoin branches → Each (λ demands. Each (λ demand. HasDemand rows demand job) demands) branches
told-branches rows kind branches job h e =
    let told : AreTold rows (flat_map (λ demands. demands) branches) job = subst (λ (k : Kind). HasDemands rows k job) e h in
    of-flat_map (λ demand. HasDemand rows demand job) (λ demands. demands) branches told.each

module _ (kind : Kind) (rows rows' : Rows) (jobs arrives jobs' arrives' : List ℕ) where
  abbrev Alike : ℕ → ℕ
  Alike at = alike_from kind rows (drop at jobs) (drop at arrives) rows' (drop at jobs') (drop at arrives')

  -- how many are the same from a position on, by whether the visits there are
  alike-at : (at job arrive job' arrive' : ℕ) → slice_get jobs at ≡ Some job → slice_get arrives at ≡ Some arrive → slice_get jobs' at ≡ Some job' → slice_get arrives' at ≡ Some arrive' →
      Alike at ≡ cond (same_visit kind rows job arrive rows' job' arrive') (suc (Alike (at + 1))) 0
  alike-at at job arrive job' arrive' a b c d = λ i. alike_from kind rows (drop_at jobs at job a i) (drop_at arrives at arrive b i) rows' (drop_at jobs' at job' c i) (drop_at arrives' at arrive' d i)

  -- visits that are the same, and visits that aren't
  pub alike-more : (at job arrive job' arrive' all : ℕ) → slice_get jobs at ≡ Some job → slice_get arrives at ≡ Some arrive → slice_get jobs' at ≡ Some job' → slice_get arrives' at ≡ Some arrive' → same_visit kind rows job arrive rows' job' arrive' ≡ true →
      all ≡ at + Alike at → all ≡ (at + 1) + Alike (at + 1)
  alike-more at job arrive job' arrive' all a b c d same h =
      let one : Alike at ≡ suc (Alike (at + 1)) = alike-at at job arrive job' arrive' a b c d ∙ ap (λ t. cond t (suc (Alike (at + 1))) 0) same in
      omega arith

  pub alike-differ : (at job arrive job' arrive' all : ℕ) → slice_get jobs at ≡ Some job → slice_get arrives at ≡ Some arrive → slice_get jobs' at ≡ Some job' → slice_get arrives' at ≡ Some arrive' → same_visit kind rows job arrive rows' job' arrive' ≡ false →
      all ≡ at + Alike at → at ≡ all
  alike-differ at job arrive job' arrive' all a b c d same h =
      let none : Alike at ≡ 0 = alike-at at job arrive job' arrive' a b c d ∙ ap (λ t. cond t (suc (Alike (at + 1))) 0) same in
      omega arith

  -- where one of the runs has ended
  ended-first : (xs ys xs' ys' : List ℕ) → length xs ≡ 0 → alike_from kind rows xs ys rows' xs' ys' ≡ 0
  ended-first [] ys xs' ys' e = refl
  ended-first (x ∷ xs) ys xs' ys' e = absurd (omega arith)

  ended-second : (xs ys xs' ys' : List ℕ) → length xs' ≡ 0 → alike_from kind rows xs ys rows' xs' ys' ≡ 0
  ended-second [] ys xs' ys' e = refl
  ended-second (x ∷ xs) [] xs' ys' e = refl
  ended-second (x ∷ xs) (y ∷ ys) [] ys' e = refl
  ended-second (x ∷ xs) (y ∷ ys) (x' ∷ xs') ys' e = absurd (omega arith)

  alike-ended : (at all : ℕ) → length jobs ≤ at → all ≡ at + Alike at → at ≡ all
  alike-ended at all l h =
      let none : Alike at ≡ 0 = ended-first (drop at jobs) (drop at arrives) (drop at jobs') (drop at arrives') (ap length (drop_all at jobs l)) in
      omega arith

  alike-ended' : (at all : ℕ) → length jobs' ≤ at → all ≡ at + Alike at → at ≡ all
  alike-ended' at all l h =
      let none : Alike at ≡ 0 = ended-second (drop at jobs) (drop at arrives) (drop at jobs') (drop at arrives') (ap length (drop_all at jobs' l)) in
      omega arith

  pub ended-at : (at all : ℕ) → min (length jobs) (length jobs') ≤ at → all ≡ at + Alike at → at ≡ all
  ended-at at all l h = go (cases_lt at (length jobs))
    where
      go : (at < length jobs) ⊎ (length jobs ≤ at) → at ≡ all
      go (inr few) = alike-ended at all few h
      go (inl more) = alike-ended' at all (omega arith) h
