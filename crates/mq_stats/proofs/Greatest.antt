-- The greatest number of jobs in a node, visit by visit.
use Rattle.std.proofs.Common.{◌≡◌, ℕ, zero, suc, ◌+◌, ◌-◌, ◌<◌, ◌≤◌, List, [], ◌∷◌, ◌++◌, append-nil, length, map, max, take, Some, refl, sym, ap, ◌∙◌, arith, append_assoc}
use Rattle.std.specs.Prelude.{count_by, fold, slice_get}
use Rattle.mq_base.proofs.lemmas.Lists.{drop_at, some_inj, get-map}
use Rattle.mq_base.specs.Lists.{between}
use Rattle.mq_core.specs.Laws.{Rises}
use Rattle.mq_core.specs.OnceOut.{departs_after, founds_from, founds_of}
use Rattle.mq_core.specs.Results.{numbers_of}
use Rattle.mq_core.specs.declared.model.Fate.{Fate}
use Rattle.mq_core.specs.declared.model.Fate.TheVariants.{Departs}
use Rattle.mq_stats.proofs.Passing.{up_to}
use Rattle.mq_stats.proofs.Steps.{grows}
use Rattle.mq_stats.proofs.Telling.{in-order}

-- what a visit found: those before it that depart later
founds-get : (before : List Fate) (arrives : List ℕ) (fates : List Fate) (k time : ℕ) (fate : Fate) → slice_get arrives k ≡ Some time → slice_get fates k ≡ Some fate →
    slice_get (founds_from before arrives fates) k ≡ Some (count_by (departs_after time) (before ++ take k fates))
founds-get before [] fates k time fate a f = absurd cc
founds-get before (x ∷ arrives) [] k time fate a f = absurd cc
founds-get before (x ∷ arrives) (y ∷ fates) zero time fate a f =
    ap (λ n. Some (count_by (departs_after n) before)) (some_inj x time a) ∙ ap (λ l. Some (count_by (departs_after time) l)) (sym (append-nil before))
founds-get before (x ∷ arrives) (y ∷ fates) (suc k) time fate a f =
    founds-get (before ++ y ∷ []) arrives fates k time fate a f ∙ ap (λ l. Some (count_by (departs_after time) l)) (append_assoc before (y ∷ []) (take k fates))

-- the items from an index on begin with the one there
between-next : {X : Type 0} (xs : List X) (at to : ℕ) (x : X) → at < to → slice_get xs at ≡ Some x → between at to xs ≡ x ∷ between (at + 1) to xs
between-next xs at to x l e = let more : to - at ≡ suc (to - (at + 1)) = omega arith in λ k. take (more k) (drop_at xs at x e k)

-- Where all depart in order, a visit more. The greatest number so far, with the visits that are left, is that of all.
pub peak-next : (arrives departs : List ℕ) (to at time departure number number' all : ℕ) → Rises (λ a b. a ≤ b) departs → slice_get arrives at ≡ Some time → slice_get departs at ≡ Some departure → at < to → at ≤ length departs →
    number' ≡ max number (at - up_to time departs + 1) →
    fold max number (numbers_of (between at to (founds_of arrives (map (λ d. Departs d) departs))) (between at to (map (λ d. Departs d) departs))) ≡ all →
    fold max number' (numbers_of (between (at + 1) to (founds_of arrives (map (λ d. Departs d) departs))) (between (at + 1) to (map (λ d. Departs d) departs))) ≡ all
peak-next arrives departs to at time departure number number' all rises a d l w m h =
    let fates : List Fate = map (λ d. Departs d) departs in
    let founds = founds_of arrives fates in
    let here = get-map (λ d. Departs d) departs at departure d in
    let found = founds-get [] arrives fates at time (Departs departure) a here ∙ ap (λ n. Some n) (in-order time at departs rises w) in
    grows number number' (at - up_to time departs + 1) _ all _ _ m refl (λ k. numbers_of (between-next founds at to _ l found k) (between-next fates at to _ l here k)) h
