-- That the span of a run is the latest time in its sequences.
use Rattle.std.proofs.Common.{List, None, Option, Some, [], ap, arith, fold, inl, inr, le_antisymm, length, map, max, option_map, refl, slice_get, subst, suc, zero, ℕ, ◌++◌, ◌+◌, ◌<◌, ◌∙◌, ◌∷◌, ◌≡◌, ◌≤◌, ◌⊎◌}
use Rattle.std.proofs.lemmas.Option.{slice_get_within}
use Rattle.std.specs.List.{AllByRecursion as Each}
use Rattle.mq_base.proofs.lemmas.Each.{Each-map}
use Rattle.mq_base.proofs.lemmas.Lists.{get-map}
use Rattle.mq_core.specs.Sequences.{sequence_span, greatest_time, time_of_fate, visits_by_node}
use Rattle.mq_core.specs.Fates.{ComesAt, IsLatest, LeavesAt, fate_by, fate_of, leaves_with}
use Rattle.mq_core.specs.KindTable.{behaviour_of}
use Rattle.mq_core.specs.Local.{Local}
use Rattle.mq_core.specs.Machine.{Emission, State, Station, Visit}
use Rattle.mq_core.specs.NumberLaws.{SpanIsSequences}
use Rattle.mq_core.specs.Results.{fates_from, or_held, visits_of}
use Rattle.mq_core.specs.StandardTable.{run_of}
use Rattle.mq_core.specs.Tallies.{arrival_or}
use Rattle.mq_core.specs.Theorems.{IsReadFor}
use Rattle.mq_core.specs.declared.model.Fate.TheVariants.{Departs}
use Rattle.mq_core.specs.declared.model.Kind.{Kind}
use Rattle.mq_core.specs.declared.model.Node.{Node}
use Rattle.mq_core.specs.declared.model.Plan.{Plan}
use Rattle.mq_core.specs.declared.model.Rows.{Rows}
use Rattle.mq_core.proofs.Sequences.NumberRefusals.{sequences-of_node}
use Rattle.mq_core.proofs.Sequences.StationTable.{nodes-leave, nodes-reach}
use Rattle.mq_core.proofs.Counting.SequenceNumbers.{LeavesAs}
use Rattle.mq_core.proofs.EachKind.LawTable.{exits_of}
use Rattle.mq_core.proofs.EachKind.Span.{span-is_latest}
use Rattle.mq_core.proofs.EachKind.StationLaws.{Reaches}
use Rattle.mq_core.proofs.Lists.NumberLists.{greatest-bounds, greatest-least}

-- the fate of a position is in the sequence
fate-at : (kind : Kind) (s : Station Local) (k i : ℕ) (xs : List Visit) → i < length xs → slice_get (fates_from kind s k xs) i ≡ Some (or_held (fate_of kind s (k + i)))
fate-at kind s k i [] l = absurd (omega arith)
fate-at kind s k zero (x ∷ xs) l = let index : k ≡ k + zero = omega arith in ap (λ n. Some (or_held (fate_of kind s n))) index
fate-at kind s k (suc i) (x ∷ xs) l = let index : suc k + i ≡ k + suc i = omega arith in fate-at kind s (suc k) i xs (omega arith) ∙ ap (λ n. Some (or_held (fate_of kind s n))) index

-- who leaves so departs no later than at that time
early-fate : (kind : Kind) (now : ℕ) (m : Emission) (x : Visit) → LeavesAs kind m x → m.time ≤ now → time_of_fate (fate_by kind m) ≤ now
early-fate kind now m x (inl e) l = rw e l
early-fate kind now m x (inr e) l = rw e.0 (omega arith)

-- no fate is later than all that leaves
fates-early : (kind : Kind) (now : ℕ) (s : Station Local) → ((p : ℕ) (x : Visit) (m : Emission) → slice_get s.visits p ≡ Some x → leaves_with kind s p ≡ Some m → (m.time ≤ now) × LeavesAs kind m x) →
    (k : ℕ) (xs : List Visit) → ((i : ℕ) (x : Visit) → slice_get xs i ≡ Some x → slice_get s.visits (k + i) ≡ Some x) → Each (λ fate. time_of_fate fate ≤ now) (fates_from kind s k xs)
fates-early kind now s left k [] all = tt
fates-early kind now s left k (x ∷ xs) all =
    (one (leaves_with kind s k) refl, fates-early kind now s left (suc k) xs (λ i y e. ap (slice_get s.visits) (let same : suc k + i ≡ k + suc i = omega arith in same) ∙ all (suc i) y e))
  where
    here : slice_get s.visits k ≡ Some x
    here = ap (slice_get s.visits) (let same : k ≡ k + 0 = omega arith in same) ∙ all 0 x refl

    one : (o : Option Emission) → leaves_with kind s k ≡ o → time_of_fate (or_held (option_map (fate_by kind) o)) ≤ now
    one None e = omega arith
    one (Some m) e = let l = left k x m here e in early-fate kind now m x l.1 l.0

module _ (plan : Plan) (rows : Rows) (read : IsReadFor plan.net rows) where
  abbrev end : State Local
  end = run_of plan rows

  abbrev latest : IsLatest plan end end.clock
  latest = span-is_latest plan rows read

  -- the sequences of a node reach to their greatest time
  sequence-within : (v : ℕ) (node : Node) → slice_get plan.net.nodes v ≡ Some node → greatest_time (visits_of node.kind (end.stations v)) ≤ sequence_span (visits_by_node end 0 plan.net.nodes)
  sequence-within v node here =
      greatest-bounds (map greatest_time (visits_by_node end 0 plan.net.nodes)) v (greatest_time (visits_of node.kind (end.stations v)))
      (get-map greatest_time (visits_by_node end 0 plan.net.nodes) v (visits_of node.kind (end.stations v)) (sequences-of_node end plan.net.nodes v ∙ ap (option_map (λ (n : Node). visits_of n.kind (end.stations v))) here))

  arrives-within : (v i : ℕ) (node : Node) (x : Visit) → slice_get plan.net.nodes v ≡ Some node → slice_get (end.stations v).visits i ≡ Some x → x.arrive ≤ sequence_span (visits_by_node end 0 plan.net.nodes)
  arrives-within v i node x here at =
      let one = greatest-bounds (map (λ (y : Visit). y.arrive) (end.stations v).visits) i x.arrive (get-map (λ (y : Visit). y.arrive) (end.stations v).visits i x at) in
      let two = sequence-within v node here in
      omega arith

  leaves-within : (v : ℕ) (node : Node) (before after : List Emission) (m : Emission) → slice_get plan.net.nodes v ≡ Some node → (end.stations v).emitted ≡ before ++ m ∷ after → m.time ≤ sequence_span (visits_by_node end 0 plan.net.nodes)
  leaves-within v node before after m here inside = go reached.at
    where
      reached : Reaches (behaviour_of node.kind) ((run_of plan rows).stations v) m
      reached = nodes-reach plan rows read v node here before after m inside

      go : (reached.visit.arrive ≡ m.time) ⊎ (fate_of node.kind ((run_of plan rows).stations v) reached.position ≡ Some (Departs m.time)) → m.time ≤ sequence_span (visits_by_node (run_of plan rows) 0 plan.net.nodes)
      go (inl e) = let came = arrives-within v reached.position node reached.visit here reached.here in omega arith
      go (inr e) =
          let s = (run_of plan rows).stations v in
          let index : 0 + reached.position ≡ reached.position = omega arith in
          let fate : slice_get (fates_from node.kind s 0 s.visits) reached.position ≡ Some (Departs m.time) = fate-at node.kind s 0 reached.position s.visits (slice_get_within s.visits reached.position reached.visit reached.here) ∙ (ap (λ n. Some (or_held (fate_of node.kind s n))) index ∙ ap (λ o. Some (or_held o)) e) in
          let one : m.time ≤ fold max 0 (map time_of_fate (fates_from node.kind s 0 s.visits)) = greatest-bounds (map time_of_fate (fates_from node.kind s 0 s.visits)) reached.position m.time (get-map time_of_fate (fates_from node.kind s 0 s.visits) reached.position (Departs m.time) fate) in
          let two = sequence-within v node here in
          omega arith

  node-early : (v : ℕ) (node : Node) → slice_get plan.net.nodes v ≡ Some node → greatest_time (visits_of node.kind (end.stations v)) ≤ end.clock
  node-early v node here =
      let s = end.stations v in
      let inside = slice_get_within plan.net.nodes v node here in
      let one = greatest-least end.clock (map (λ (x : Visit). x.arrive) s.visits) (Each-map _ _ (λ (x : Visit). x.arrive) (λ x h. h) s.visits (latest.came v inside)) in
      let left : (p : ℕ) (x : Visit) (m : Emission) → slice_get s.visits p ≡ Some x → leaves_with node.kind s p ≡ Some m → (m.time ≤ end.clock) × LeavesAs node.kind m x = λ p x m at e. ((exits_of rows (length node.inputs) node.kind).among s p end.clock m (latest.left v inside) e, nodes-leave plan rows read v node here p x m at e) in
      let fates = fates-early node.kind end.clock s left 0 s.visits (λ i x e. ap (slice_get s.visits) (let same : 0 + i ≡ i = omega arith in same) ∙ e) in
      let two = greatest-least end.clock (map time_of_fate (fates_from node.kind s 0 s.visits)) (Each-map _ _ time_of_fate (λ f h. h) (fates_from node.kind s 0 s.visits) fates) in
      omega arith

  nodes-early : (k : ℕ) (nodes : List Node) → ((i : ℕ) (node : Node) → slice_get nodes i ≡ Some node → greatest_time (visits_of node.kind (end.stations (k + i))) ≤ end.clock) → Each (λ time. time ≤ end.clock) (map greatest_time (visits_by_node end k nodes))
  nodes-early k [] h = tt
  nodes-early k (n ∷ nodes) h = (
    subst (λ v. greatest_time (visits_of n.kind (end.stations v)) ≤ end.clock) (let same : k + 0 ≡ k = omega arith in same) (h 0 n refl),
    nodes-early (suc k) nodes (λ i node e. subst (λ v. greatest_time (visits_of node.kind (end.stations v)) ≤ end.clock) (let same : k + suc i ≡ suc k + i = omega arith in same) (h (suc i) node e)),
  )

  reached : end.clock ≤ sequence_span (visits_by_node end 0 plan.net.nodes)
  reached = go latest.reached
    where
      comes : (v position : ℕ) (node : Node) → slice_get plan.net.nodes v ≡ Some node → (p : Option Visit) → slice_get ((run_of plan rows).stations v).visits position ≡ p → arrival_or 0 p ≡ (run_of plan rows).clock → (run_of plan rows).clock ≤ sequence_span (visits_by_node (run_of plan rows) 0 plan.net.nodes)
      comes v position node here None at time = omega arith
      comes v position node here (Some x) at time = let one = arrives-within v position node x here at in omega arith

      go : ((run_of plan rows).clock ≡ 0) ⊎ (ComesAt plan.net.nodes (run_of plan rows) (run_of plan rows).clock ⊎ LeavesAt plan.net.nodes (run_of plan rows) (run_of plan rows).clock) → (run_of plan rows).clock ≤ sequence_span (visits_by_node (run_of plan rows) 0 plan.net.nodes)
      go (inl h) = omega arith
      go (inr (inl h)) = comes h.node h.position h.declared h.there (slice_get ((run_of plan rows).stations h.node).visits h.position) refl h.at
      go (inr (inr h)) = let one = leaves-within h.node h.declared h.before h.after h.emission h.there h.inside in let time = h.at in omega arith

  pub span-sequences : end.clock ≡ sequence_span (visits_by_node end 0 plan.net.nodes)
  span-sequences =
      let low = reached in
      let high = greatest-least end.clock (map greatest_time (visits_by_node end 0 plan.net.nodes)) (nodes-early 0 plan.net.nodes (λ i node e. subst (λ v. greatest_time (visits_of node.kind (end.stations v)) ≤ end.clock) (let same : i ≡ 0 + i = omega arith in same) (node-early i node e))) in
      le_antisymm low high

pub span-is_sequences : SpanIsSequences
span-is_sequences plan rows read = span-sequences plan rows read
