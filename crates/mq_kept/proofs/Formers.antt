-- How nodes come back to what they had before.
use Rattle.std.proofs.Common.{◌≡◌, ◌≢◌, ℕ, ◌+◌, ◌<◌, ◌⊎◌, inl, inr, All, List, [], length, set, Some, sym, ap, ◌∙◌, subst, arith}
use Rattle.std.proofs.lemmas.Bool.{cases_eq}
use Rattle.std.specs.Prelude.{slice_get}
use Rattle.std.proofs.lemmas.List.{length-set, same_lists, set-set}
use Rattle.std.proofs.lemmas.Option.{get_or_from_slice_get, slice_get_within}
use Rattle.mq_base.proofs.lemmas.Lists.{get-set_other, get-set_same, get-some, some_inj}
use Rattle.mq_kept.specs.Formers.{AllFit, AreNodes, AreNothing, AreSameNodes, CanComeBack, FitsIn, HasLists, IsPut, lists_before, no_lists}
use Rattle.mq_kept.specs.declared.checkpoints.Checkpoints.TheVariants.{Nothing}
use Rattle.mq_kept.specs.declared.former.Former.{Former}
use Rattle.mq_kept.specs.declared.former.Former.TheVariants.{Same}
use Rattle.mq_kept.specs.declared.former.NodeLists.{NodeLists}
use Rattle.mq_kept.specs.declared.former.Nodes.{Nodes}

-- each node has lists, and no others
pub lists-there : (count : ℕ) (nodes : Nodes) (v : ℕ) → AreNodes count nodes → v < count → (lists : NodeLists) × HasLists nodes v lists
lists-there count nodes v n l =
    let a = get-some nodes.visits.items v (subst (λ m. v < m) (sym n.0) l) in
    let b = get-some nodes.outputs.items v (subst (λ m. v < m) (sym n.1) l) in
    let c = get-some nodes.checkpoints.items v (subst (λ m. v < m) (sym n.2) l) in
    (record { visits = a.0; streams = b.0; checkpoints = c.0 }, (a.1, b.1, c.1))

pub lists-one : (nodes : Nodes) (v : ℕ) (a b : NodeLists) → HasLists nodes v a → HasLists nodes v b → a ≡ b
lists-one nodes v a b h g =
    let visits = some_inj a.visits b.visits (sym h.0 ∙ g.0) in
    let streams = some_inj a.streams b.streams (sym h.1 ∙ g.1) in
    let checkpoints = some_inj a.checkpoints b.checkpoints (sym h.2 ∙ g.2) in
    λ i. record { visits = visits i; streams = streams i; checkpoints = checkpoints i }

-- Lists that are put at a node.
module _ (nodes nodes' : Nodes) (v : ℕ) (lists : NodeLists) (p : IsPut nodes v lists nodes') where
  pub put-count : (count : ℕ) → AreNodes count nodes → AreNodes count nodes'
  put-count count n = (
    ap length p.0 ∙ (length-set nodes.visits.items v lists.visits ∙ n.0),
    ap length p.1 ∙ (length-set nodes.outputs.items v lists.streams ∙ n.1),
    ap length p.2 ∙ (length-set nodes.checkpoints.items v lists.checkpoints ∙ n.2),
  )

  -- the node has them
  pub put-here : (count : ℕ) → AreNodes count nodes → v < count → HasLists nodes' v lists
  put-here count n l = (
    ap (λ xs. slice_get xs v) p.0 ∙ get-set_same nodes.visits.items v lists.visits (subst (λ m. v < m) (sym n.0) l),
    ap (λ xs. slice_get xs v) p.1 ∙ get-set_same nodes.outputs.items v lists.streams (subst (λ m. v < m) (sym n.1) l),
    ap (λ xs. slice_get xs v) p.2 ∙ get-set_same nodes.checkpoints.items v lists.checkpoints (subst (λ m. v < m) (sym n.2) l),
  )

  -- the others have what they had
  pub put-other : (w : ℕ) (other : NodeLists) → w ≢ v → HasLists nodes' w other → HasLists nodes w other
  put-other w other apart h = (
    sym (ap (λ xs. slice_get xs w) p.0 ∙ get-set_other nodes.visits.items v w lists.visits apart) ∙ h.0,
    sym (ap (λ xs. slice_get xs w) p.1 ∙ get-set_other nodes.outputs.items v w lists.streams apart) ∙ h.1,
    sym (ap (λ xs. slice_get xs w) p.2 ∙ get-set_other nodes.checkpoints.items v w lists.checkpoints apart) ∙ h.2,
  )

  -- of lists that are put one after another the last stay
  pub put-twice : (nodes'' : Nodes) (last : NodeLists) → IsPut nodes' v last nodes'' → IsPut nodes v last nodes''
  put-twice nodes'' last q = (
    q.0 ∙ (ap (λ xs. set xs v last.visits) p.0 ∙ set-set nodes.visits.items v lists.visits last.visits),
    q.1 ∙ (ap (λ xs. set xs v last.streams) p.1 ∙ set-set nodes.outputs.items v lists.streams last.streams),
    q.2 ∙ (ap (λ xs. set xs v last.checkpoints) p.2 ∙ set-set nodes.checkpoints.items v lists.checkpoints last.checkpoints),
  )

  -- the nodes can come back, where that one can
  pub comes-put : (before : Nodes) (formers formers' : List Former) → CanComeBack before nodes formers → AreNodes (length formers) nodes → v < length formers → length formers' ≡ length formers → ((w : ℕ) → w ≢ v → slice_get formers' w ≡ slice_get formers w) →
      ((was : NodeLists) (former : Former) → HasLists before v was → slice_get formers' v ≡ Some former → lists_before former lists ≡ was) → CanComeBack before nodes' formers'
  comes-put before formers formers' c n inside long others back =
      record {
        count = subst (λ m. AreNodes m before) (sym long) c.count;
        each = λ w was now former a b e. each w was now former a b e (cases_eq w v);
      }
    where
      each : (w : ℕ) (was now : NodeLists) (former : Former) → HasLists before w was → HasLists nodes' w now → slice_get formers' w ≡ Some former → (w ≡ v) ⊎ (w ≢ v) → lists_before former now ≡ was
      each w was now former a b e (inl same) =
          let is : lists ≡ now = lists-one nodes' v lists now (put-here (length formers) n inside) (subst (λ x. HasLists nodes' x now) same b) in
          subst (λ x. lists_before former x ≡ was) is (back was former (subst (λ x. HasLists before x was) same a) (sym (ap (slice_get formers') same) ∙ e))
      each w was now former a b e (inr apart) = c.each w was now former a (put-other w now apart b) (sym (others w apart) ∙ e)

  -- and so fit, where that one does
  pub fits-put : (formers formers' : List Former) → AllFit nodes formers → AreNodes (length formers) nodes → v < length formers → ((w : ℕ) → w ≢ v → slice_get formers' w ≡ slice_get formers w) →
      ((former : Former) → slice_get formers' v ≡ Some former → FitsIn former lists) → AllFit nodes' formers'
  fits-put formers formers' fit n inside others here = λ w now former b e. each w now former b e (cases_eq w v)
    where
      each : (w : ℕ) (now : NodeLists) (former : Former) → HasLists nodes' w now → slice_get formers' w ≡ Some former → (w ≡ v) ⊎ (w ≢ v) → FitsIn former now
      each w now former b e (inl same) =
          let is : lists ≡ now = lists-one nodes' v lists now (put-here (length formers) n inside) (subst (λ x. HasLists nodes' x now) same b) in
          subst (FitsIn former) is (here former (sym (ap (slice_get formers') same) ∙ e))
      each w now former b e (inr apart) = fit w now former (put-other w now apart b) (sym (others w apart) ∙ e)

-- where all have what they had, the nodes are the same
pub all-back : (before nodes : Nodes) (formers : List Former) → CanComeBack before nodes formers → AreNodes (length formers) nodes → ((w : ℕ) → w < length formers → slice_get formers w ≡ Some Same) → AreSameNodes before nodes
all-back before nodes formers c n same = (
  same_lists nodes.visits.items before.visits.items (n.0 ∙ sym c.count.0) (λ k d l. let h = at k (subst (λ m. k < m) n.0 l) in let e = h.3 in
      get_or_from_slice_get nodes.visits.items k _ d h.1.0 ∙ (ap (λ (x : NodeLists). x.visits) e ∙ sym (get_or_from_slice_get before.visits.items k _ d h.2.0))),
  same_lists nodes.outputs.items before.outputs.items (n.1 ∙ sym c.count.1) (λ k d l. let h = at k (subst (λ m. k < m) n.1 l) in let e = h.3 in
      get_or_from_slice_get nodes.outputs.items k _ d h.1.1 ∙ (ap (λ (x : NodeLists). x.streams) e ∙ sym (get_or_from_slice_get before.outputs.items k _ d h.2.1))),
  same_lists nodes.checkpoints.items before.checkpoints.items (n.2 ∙ sym c.count.2) (λ k d l. let h = at k (subst (λ m. k < m) n.2 l) in let e = h.3 in
      get_or_from_slice_get nodes.checkpoints.items k _ d h.1.2 ∙ (ap (λ (x : NodeLists). x.checkpoints) e ∙ sym (get_or_from_slice_get before.checkpoints.items k _ d h.2.2))),
)
  where
    at : (k : ℕ) → k < length formers → (both : NodeLists × NodeLists) × HasLists nodes k both.0 × HasLists before k both.1 × (both.0 ≡ both.1)
    at k l =
        let now = lists-there (length formers) nodes k n l in
        let was = lists-there (length formers) before k c.count l in
        ((now.0, was.0), now.1, was.1, c.each k was.0 now.0 Same was.1 now.1 (same k l))

-- at first all have what they had
pub comes-first : (nodes : Nodes) (formers : List Former) → AreNodes (length formers) nodes → ((w : ℕ) (former : Former) → slice_get formers w ≡ Some former → former ≡ Same) → CanComeBack nodes nodes formers
comes-first nodes formers n same = record {
  count = n;
  each = λ v was now former a b e. subst (λ (f : Former). lists_before f now ≡ was) (sym (same v former e)) (lists-one nodes v now was b a);
}

-- and all fit
pub fits-first : (nodes : Nodes) (formers : List Former) → ((w : ℕ) (former : Former) → slice_get formers w ≡ Some former → former ≡ Same) → AllFit nodes formers
fits-first nodes formers same = λ v now former a e. subst (λ (f : Former). FitsIn f now) (sym (same v former e)) tt

-- one more has what it had
pub same-more : (formers : List Former) (at : ℕ) → at < length formers → ((w : ℕ) → w < at → slice_get formers w ≡ Some Same) → (w : ℕ) → w < at + 1 → slice_get (set formers at Same) w ≡ Some Same
same-more formers at l same w less = go (cases_eq w at)
  where
    go : (w ≡ at) ⊎ (w ≢ at) → slice_get (set formers at Same) w ≡ Some Same
    go (inl e) = ap (slice_get (set formers at Same)) e ∙ get-set_same formers at Same l
    go (inr apart) = get-set_other formers at w Same apart ∙ same w (below apart)
      where
        below : w ≢ at → w < at
        below apart = omega (arith, apart)

-- where each list is empty nothing is kept
pub all-nothing : (nodes : Nodes) → All (λ visits. visits ≡ no_lists.visits) nodes.visits.items → All (λ streams. streams ≡ []) nodes.outputs.items → All (λ points. points ≡ Nothing) nodes.checkpoints.items → AreNothing nodes
all-nothing nodes a b c v lists h =
    let visits : lists.visits ≡ no_lists.visits = sym (get_or_from_slice_get nodes.visits.items v lists.visits lists.visits h.0) ∙ a v lists.visits (slice_get_within nodes.visits.items v lists.visits h.0) in
    let streams : lists.streams ≡ [] = sym (get_or_from_slice_get nodes.outputs.items v lists.streams lists.streams h.1) ∙ b v lists.streams (slice_get_within nodes.outputs.items v lists.streams h.1) in
    let checkpoints : lists.checkpoints ≡ Nothing = sym (get_or_from_slice_get nodes.checkpoints.items v lists.checkpoints lists.checkpoints h.2) ∙ c v lists.checkpoints (slice_get_within nodes.checkpoints.items v lists.checkpoints h.2) in
    λ i. record { visits = visits i; streams = streams i; checkpoints = checkpoints i }
