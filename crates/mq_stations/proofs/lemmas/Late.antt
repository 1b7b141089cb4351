-- Which visits are late.
use Rattle.std.proofs.Common.{◌≡◌, ℕ, suc, ◌+◌, ◌<◌, ◌≤◌, Bool, true, false, cond, List, [], ◌∷◌, ◌++◌, drop, map, Option, Some, None, sym, refl, ap, ◌∙◌, arith}
use Rattle.std.specs.Prelude.{nat_lt, slice_get}
use Rattle.std.specs.List.{AllByRecursion as Each}
use Rattle.std.proofs.lemmas.Bool.Decides.{nat_tests}
use Rattle.mq_base.proofs.lemmas.Lists.{drop_suc}
use Rattle.mq_core.specs.Sequences.{sequence_late_from, time_of_fate}
use Rattle.mq_core.specs.Results.{Late, first_of, late_fate}
use Rattle.mq_core.specs.declared.model.Fate.{Fate}
use Rattle.mq_core.specs.declared.model.Fate.TheVariants.{Departs, Held, Lost}

pub departs_inj : (a b : ℕ) → Departs a ≡ Departs b → a ≡ b
departs_inj a b h = cc

-- one that is not late
pub quiet : (bound node position : ℕ) (fate : Fate) → ((time : ℕ) → fate ≡ Departs time → time ≤ bound) → late_fate bound node position (Some fate) ≡ []
quiet bound node position (Departs time) h = let l : time ≤ bound = h time refl in grind (arith, nat_tests)
quiet bound node position Lost h = refl
quiet bound node position Held h = refl

pub late-next : (bound node position : ℕ) (fate : Fate) (fates : List Fate) (first : Option Late) → slice_get fates position ≡ Some fate → late_fate bound node position (Some fate) ≡ [] → first_of (sequence_late_from bound node position (drop position fates)) ≡ first →
    first_of (sequence_late_from bound node (position + 1) (drop (position + 1) fates)) ≡ first
late-next bound node position fate fates first e q h =
    let next : suc position ≡ position + 1 = omega arith in
    ap (λ n. first_of (sequence_late_from bound node n (drop n fates))) (sym next)
    ∙ (ap (λ (l : List Late). first_of (l ++ sequence_late_from bound node (suc position) (drop (suc position) fates))) (sym q)
    ∙ (ap (λ l. first_of (sequence_late_from bound node position l)) (sym (drop_suc fates position fate e)) ∙ h))

pub late-here : (bound node position time : ℕ) (fates : List Fate) (first : Option Late) → slice_get fates position ≡ Some (Departs time) → bound < time → first_of (sequence_late_from bound node position (drop position fates)) ≡ first →
    first ≡ Some (record { node = node; position = position; time = time })
late-here bound node position time fates first e l h =
    sym h ∙ (ap (λ l. first_of (sequence_late_from bound node position l)) (drop_suc fates position (Departs time) e) ∙ here)
  where
    here : first_of (sequence_late_from bound node position (Departs time ∷ drop (suc position) fates)) ≡ Some (record { node = node; position = position; time = time })
    here = let t : nat_lt bound time ≡ true = grind (arith, nat_tests) in ap (λ (b : Bool). first_of (cond b (record { node = node; position = position; time = time } ∷ []) [] ++ sequence_late_from bound node (suc position) (drop (suc position) fates))) t

-- where no visit is late all leave within the bound
pub none-late : (bound node position : ℕ) (fates : List Fate) → first_of (sequence_late_from bound node position fates) ≡ None → Each (λ time. time ≤ bound) (map time_of_fate fates)
none-late bound node position [] h = tt
none-late bound node position (Lost ∷ fs) h = (omega arith, none-late bound node (suc position) fs h)
none-late bound node position (Held ∷ fs) h = (omega arith, none-late bound node (suc position) fs h)
none-late bound node position (Departs time ∷ fs) h = go (nat_lt bound time) refl h (none-late bound node (suc position) fs)
  where
    go : (b : Bool) → nat_lt bound time ≡ b → first_of (cond b (record { node = node; position = position; time = time } ∷ []) [] ++ sequence_late_from bound node (suc position) fs) ≡ None → (first_of (sequence_late_from bound node (suc position) fs) ≡ None → Each (λ t. t ≤ bound) (map time_of_fate fs)) → Each (λ t. t ≤ bound) (map time_of_fate (Departs time ∷ fs))
    go true e k ih = absurd cc
    go false e k ih = (grind (arith, nat_tests), ih k)
