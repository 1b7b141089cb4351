-- That each node lets out its flow, and each visit leaves as the flow says.
use Rattle.std.proofs.Common.{List, true, Some, [], ap, arith, cond, eq-eqb, eqb, false, length, subst, suc, sym, zero, ℕ, ◌+◌, ◌∙◌, ◌∷◌, ◌≡◌, ne_eqb}
use Rattle.std.specs.Prelude.{slice_get}
use Rattle.mq_core.specs.SequenceLaws.{NodesFlow, sends_once}
use Rattle.mq_core.specs.Machine.{Emission, Visit}
use Rattle.mq_core.specs.Served.{flow_of}
use Rattle.mq_core.specs.StandardTable.{run_of}
use Rattle.mq_core.specs.Tallies.{emission_at}
use Rattle.mq_core.specs.declared.model.Kind.{Kind}
use Rattle.mq_core.specs.declared.model.Rows.{Rows}
use Rattle.mq_base.proofs.lemmas.Lists.{some_inj}
use Rattle.mq_core.proofs.Counting.SequenceNumbers.{EachLeaves, LeavesAs, Numbered}
use Rattle.mq_core.proofs.EachKind.Ends.{end-fact}
use Rattle.mq_core.proofs.EachKind.Facts.{node_fact}
use Rattle.mq_core.proofs.EachKind.Flows.{kind-flow}
use Rattle.mq_core.proofs.EachKind.LawTable.{recurrence_of}

pub nodes-flow : NodesFlow
nodes-flow plan rows read v node e =
    let end = run_of plan rows in
    kind-flow rows (length node.inputs) node.kind v (end.stations v) end.clock (subst (λ o. node_fact rows o v (end.stations v) [] end.clock) e (end-fact plan rows read v))

pub flow-leaves : (rows : Rows) (ports : ℕ) (kind : Kind) → sends_once kind ≡ true → (visits : List Visit) → EachLeaves kind (flow_of rows ports kind visits) visits
flow-leaves rows ports kind once = (recurrence_of rows ports kind once).leaves

-- the same of the visit and the emission of a position
pub leaves-at : (kind : Kind) (k : ℕ) (ms : List Emission) (xs : List Visit) → Numbered k ms xs → EachLeaves kind ms xs → (i : ℕ) (x : Visit) (m : Emission) → slice_get xs i ≡ Some x → emission_at ms (k + i) ≡ Some m → LeavesAs kind m x
leaves-at kind k [] [] n h i x m e f = absurd cc
leaves-at kind k [] (y ∷ ys) n h i x m e f = absurd n
leaves-at kind k (o ∷ ms) [] n h i x m e f = absurd n
leaves-at kind k (o ∷ ms) (y ∷ ys) n h zero x m e f =
    let at : o.position ≡ k + 0 = (let p = n.0 in omega arith) in
    let own : o ≡ m = some_inj o m (ap (λ b. cond b (Some o) (emission_at ms (k + 0))) (sym (eq-eqb o.position (k + 0) at)) ∙ f) in
    subst (LeavesAs kind m) (some_inj y x e) (subst (λ z. LeavesAs kind z y) own h.0)
leaves-at kind k (o ∷ ms) (y ∷ ys) n h (suc i) x m e f =
    let p = n.0 in
    let other : eqb o.position (k + suc i) ≡ false = ne_eqb o.position (k + suc i) (λ q. omega arith) in
    let index : suc k + i ≡ k + suc i = omega arith in
    leaves-at kind (suc k) ms ys n.2 h.1 i x m e (ap (emission_at ms) index ∙ (ap (λ b. cond b (Some o) (emission_at ms (k + suc i))) (sym other) ∙ f))
