-- The first late departure, where departures never fall, and where they come in any order.
use Rattle.std.proofs.Common.{◌≡◌, ℕ, zero, suc, ◌+◌, ◌<◌, ◌≤◌, Bool, true, false, cond, List, [], ◌∷◌, ◌++◌, length, drop, map, take, Option, Some, None, refl, sym, ap, ◌∙◌, subst, arith}
use Rattle.std.specs.Prelude.{nat_lt, slice_get}
use Rattle.std.specs.List.{AllByRecursion as Each}
use Rattle.std.proofs.lemmas.List.{drop_all, length-map}
use Rattle.mq_base.proofs.lemmas.Lists.{some_inj, take-all, get-map}
use Rattle.mq_core.specs.Laws.{Rises, in_order_of, insert_by}
use Rattle.mq_core.specs.Results.{Late, first_of, late_fate}
use Rattle.mq_core.specs.Sequences.{sequence_late_from}
use Rattle.mq_core.specs.declared.model.Fate.TheVariants.{Departs}
use Rattle.mq_core.proofs.lemmas.Rising.{Rises-in_order_of}
use Rattle.mq_stations.proofs.lemmas.Late.{departs_inj, late-here, late-next, quiet}
use Rattle.mq_stations.proofs.lemmas.Lists.{Each-get}

-- where one is within the bound, so are those before it
early-up_to : (bound : ℕ) (times : List ℕ) (i time : ℕ) → Rises (λ a b. a ≤ b) times → slice_get times i ≡ Some time → time ≤ bound → Each (λ t. t ≤ bound) (take (suc i) times)
early-up_to bound [] i time up e l = absurd cc
early-up_to bound (t ∷ ts) zero time up e l = (subst (λ u. u ≤ bound) (sym (some_inj t time e)) l, tt)
early-up_to bound (t ∷ ts) (suc i) time up e l =
    let first : t ≤ time = Each-get (λ u. t ≤ u) ts i time up.0 e in
    (omega arith, early-up_to bound ts i time up.1 e l)

pub early-before : (bound : ℕ) (times : List ℕ) (i time : ℕ) → Rises (λ a b. a ≤ b) times → slice_get times i ≡ Some time → time ≤ bound → Each (λ t. t ≤ bound) (take (i + 1) times)
early-before bound times i time up e l =
    let next : suc i ≡ i + 1 = omega arith in
    subst (λ n. Each (λ t. t ≤ bound) (take n times)) next (early-up_to bound times i time up e l)

one-quiet : (bound node position time : ℕ) (late : List Late) → time ≤ bound → late_fate bound node position (Some (Departs time)) ++ late ≡ late
one-quiet bound node position time late l = ap (λ found. found ++ late) (quiet bound node position (Departs time) (λ t e. subst (λ u. u ≤ bound) (departs_inj _ _ e) l))

-- where all are within it, none is late
pub none-after : (bound node position : ℕ) (times : List ℕ) → Each (λ t. t ≤ bound) times → sequence_late_from bound node position (map (λ t. Departs t) times) ≡ []
none-after bound node position [] h = refl
none-after bound node position (t ∷ ts) h = one-quiet bound node position t _ h.0 ∙ none-after bound node (suc position) ts h.1

-- those that are within it may be left out
after-early : (bound node position n : ℕ) (times : List ℕ) → Each (λ t. t ≤ bound) (take n times) →
    sequence_late_from bound node position (map (λ t. Departs t) times) ≡ sequence_late_from bound node (position + n) (drop n (map (λ t. Departs t) times))
after-early bound node position zero times h = let same : position ≡ position + 0 = omega arith in ap (λ m. sequence_late_from bound node m (map (λ t. Departs t) times)) same
after-early bound node position (suc n) [] h = refl
after-early bound node position (suc n) (t ∷ ts) h =
    let next : suc position + n ≡ position + suc n = omega arith in
    one-quiet bound node position t _ h.0
    ∙ (after-early bound node (suc position) n ts h.1 ∙ ap (λ m. sequence_late_from bound node m (drop n (map (λ u. Departs u) ts))) next)

pub first-is : (bound node n time : ℕ) (times : List ℕ) → Each (λ t. t ≤ bound) (take n times) → slice_get times n ≡ Some time → bound < time →
    first_of (sequence_late_from bound node 0 (map (λ t. Departs t) times)) ≡ Some (record { node = node; position = n; time = time })
first-is bound node n time times h e l =
    let fates = map (λ t. Departs t) times in
    let at : slice_get fates n ≡ Some (Departs time) = get-map (λ t. Departs t) times n time e in
    let start : 0 + n ≡ n = omega arith in
    let rest = after-early bound node 0 n times h ∙ ap (λ m. sequence_late_from bound node m (drop n fates)) start in
    late-here bound node n time fates (first_of (sequence_late_from bound node 0 fates)) at l (ap first_of (sym rest))

-- Where departures are given in order. What holds of all items in order holds of all.
insert-back : (P : ℕ → Type 0) (t : ℕ) (ts : List ℕ) → Each P (insert_by (λ u. u) t ts) → P t × Each P ts
insert-back P t [] h = (h.0, tt)
insert-back P t (u ∷ ts) h = go (nat_lt u t) h (insert-back P t ts)
  where
    go : (b : Bool) → Each P (cond b (u ∷ insert_by (λ v. v) t ts) (t ∷ (u ∷ ts))) → (Each P (insert_by (λ v. v) t ts) → P t × Each P ts) → P t × Each P (u ∷ ts)
    go true k ih = ((ih k.1).0, (k.0, (ih k.1).1))
    go false k ih = (k.0, k.1)

order-back : (P : ℕ → Type 0) (ts : List ℕ) → Each P (in_order_of (λ u. u) ts) → Each P ts
order-back P [] h = tt
order-back P (t ∷ ts) h = let both = insert-back P t (in_order_of (λ u. u) ts) h in (both.0, order-back P ts both.1)

-- none is late where the last of those in order is not
pub none-overtaken : (bound node : ℕ) (departs leaving : List ℕ) (i last : ℕ) → leaving ≡ in_order_of (λ t. t) departs → slice_get leaving i ≡ Some last → length leaving ≤ i + 1 → last ≤ bound → sequence_late_from bound node 0 (map (λ t. Departs t) departs) ≡ []
none-overtaken bound node departs leaving i last e g n l =
    let up : Rises (λ a b. a ≤ b) leaving = subst (Rises (λ a b. a ≤ b)) (sym e) (Rises-in_order_of (λ t. t) departs) in
    let front = early-before bound leaving i last up g l in
    let all : Each (λ t. t ≤ bound) leaving = subst (Each (λ t. t ≤ bound)) (take-all leaving (i + 1) n) front in
    none-after bound node 0 departs (order-back (λ t. t ≤ bound) departs (subst (Each (λ t. t ≤ bound)) e all))

pub none-leaves : (bound node : ℕ) (departs leaving : List ℕ) → leaving ≡ in_order_of (λ t. t) departs → length leaving ≤ 0 → sequence_late_from bound node 0 (map (λ t. Departs t) departs) ≡ []
none-leaves bound node departs leaving e n =
    none-after bound node 0 departs (order-back (λ t. t ≤ bound) departs (subst (Each (λ t. t ≤ bound)) e (nothing leaving n)))
  where
    nothing : (ts : List ℕ) → length ts ≤ 0 → Each (λ t. t ≤ bound) ts
    nothing [] l = tt
    nothing (t ∷ ts) l = absurd (omega arith)

-- Departures in whatever order. One more that is within the bound
pub early-next : (bound node position time : ℕ) (departs : List ℕ) (first : Option Late) → slice_get departs position ≡ Some time → time ≤ bound →
    first_of (sequence_late_from bound node position (drop position (map (λ t. Departs t) departs))) ≡ first →
    first_of (sequence_late_from bound node (position + 1) (drop (position + 1) (map (λ t. Departs t) departs))) ≡ first
early-next bound node position time departs first e l h =
    late-next bound node position (Departs time) (map (λ t. Departs t) departs) first (get-map (λ t. Departs t) departs position time e) (quiet bound node position (Departs time) (λ t k. subst (λ u. u ≤ bound) (departs_inj _ _ k) l)) h

-- the first that is not
pub late-at : (bound node position time : ℕ) (departs : List ℕ) (first : Option Late) → slice_get departs position ≡ Some time → bound < time →
    first_of (sequence_late_from bound node position (drop position (map (λ t. Departs t) departs))) ≡ first → first ≡ Some (record { node = node; position = position; time = time })
late-at bound node position time departs first e l h = late-here bound node position time (map (λ t. Departs t) departs) first (get-map (λ t. Departs t) departs position time e) l h

-- or there is none
pub late-end : (bound node position : ℕ) (departs : List ℕ) (first : Option Late) → length departs ≤ position → first_of (sequence_late_from bound node position (drop position (map (λ t. Departs t) departs))) ≡ first → first ≡ None
late-end bound node position departs first l h =
    let fates = map (λ t. Departs t) departs in
    let many = length-map departs (λ t. Departs t) in
    sym h ∙ ap (λ fs. first_of (sequence_late_from bound node position fs)) (drop_all position fates (omega arith))
