-- The end of the waves: where no node is ready any more, each is done, or the first by rank that is not has too many visits or a late one.
use Rattle.std.proofs.Common.{◌≡◌, ℕ, suc, ◌+◌, ◌<◌, ◌≤◌, ◌⊎◌, inl, inr, Bool, true, List, [], ◌∷◌, length, take, Some, None, refl, sym, ap, ◌∙◌, subst, arith}
use Rattle.std.specs.Prelude.{◌&&◌, filter, slice_get}
use Rattle.std.specs.Option.{option_map}
use Rattle.std.specs.List.{list_all}
use Rattle.std.proofs.lemmas.Bool.{cases_lt}
use Rattle.std.proofs.lemmas.Option.{slice_get-map, slice_get_within}
use Rattle.mq_base.proofs.lemmas.Lists.{get-some, get-take, some_inj}
use Rattle.mq_core.specs.Sequences.{IsRunOf, sequence_refusal}
use Rattle.mq_core.specs.NumberLaws.{IsFineBelow}
use Rattle.mq_core.specs.Results.{refusal_of, visits_of}
use Rattle.mq_core.specs.StandardTable.{run_of}
use Rattle.mq_core.specs.Theorems.{IsReadFor}
use Rattle.mq_core.specs.Wiring.{outputs_read}
use Rattle.mq_core.specs.declared.model.Input.{Input}
use Rattle.mq_core.specs.declared.model.Node.{Node}
use Rattle.mq_core.specs.declared.model.Plan.{Plan}
use Rattle.mq_core.specs.declared.model.Rows.{Rows}
use Rattle.mq_core.specs.declared.model.Stream.{Stream}
use Rattle.mq_core.specs.declared.model.Visits.{Visits}
use Rattle.mq_exits.specs.Refusals.{over_told, past_told}
use Rattle.mq_engine.specs.CoreLaws.{CoreLaws}
use Rattle.mq_engine.specs.Progress.{AreWithin, IsReached, Tells, is_done, is_read, is_ready, is_waiting, reads_done, stands_at}
use Rattle.mq_core.specs.declared.refusals.OverFault.{OverFault}
use Rattle.mq_core.specs.declared.refusals.PastFault.{PastFault}
use Rattle.mq_engine.specs.declared.progress.Stand.{Stand}
use Rattle.mq_engine.specs.declared.progress.Stand.TheVariants.{Waiting, Done, Crowded, Late}
use Rattle.mq_engine.proofs.Lists.{filter-none, has-index}

pub all-pass : {X : Type 0} (test : X → Bool) (xs : List X) → ((k : ℕ) (x : X) → slice_get xs k ≡ Some x → test x ≡ true) → list_all test xs ≡ true
all-pass test [] h = refl
all-pass test (x ∷ xs) h = (λ k. h 0 x refl k && all-pass test xs (λ j y e. h (suc j) y e) k)

-- a plan names nodes of its network alone
pub within : (laws : CoreLaws) (plan : Plan) → AreWithin plan.net.nodes plan.order
within laws plan = record {
  ranked = λ rank v e. (laws.ranks plan rank v e).inside;
  reads = λ v port node input e g.
      let named = (laws.limits plan v node e).reads port input g in
      slice_get_within plan.net.nodes input.node named.node named.there;
}

-- what stands at a node is why the run is refused there, if it is
abbrev pub StandsAt : Plan → Rows → ℕ → Node → Stand → Type 0
StandsAt plan rows v node Waiting = Unit {0}
StandsAt plan rows v node Done = sequence_refusal plan.net.bound v (visits_of node.kind ((run_of plan rows).stations v)) ≡ None
StandsAt plan rows v node (Crowded fault) = sequence_refusal plan.net.bound v (visits_of node.kind ((run_of plan rows).stations v)) ≡ Some (over_told fault)
StandsAt plan rows v node (Late fault) = sequence_refusal plan.net.bound v (visits_of node.kind ((run_of plan rows).stations v)) ≡ Some (past_told fault)

pub record HaveStands (plan : Plan) (rows : Rows) (stands : List Stand) : Type 0 where
  pub stand : length stands ≡ length plan.net.nodes
  pub told : (v : ℕ) (node : Node) (at : Stand) → slice_get plan.net.nodes v ≡ Some node → slice_get stands v ≡ Some at → StandsAt plan rows v node at

module _ (laws : CoreLaws) (plan : Plan) (rows : Rows) (read : IsReadFor plan.net rows) (stands : List Stand) (r : HaveStands plan rows stands) where
  pub rank-inside : (rank v : ℕ) → slice_get plan.order rank ≡ Some v → v < length stands
  rank-inside rank v e = subst (λ n. v < n) (sym r.stand) (laws.ranks plan rank v e).inside

  fine-below : (rank : ℕ) → ((q v : ℕ) → q < rank → slice_get plan.order q ≡ Some v → slice_get stands v ≡ Some Done) → IsFineBelow plan rows rank
  fine-below rank below = λ q v node l e there. r.told v node Done there (below q v l e)

  -- the next that is not done is why the run is refused: it has too many visits, or a late one
  pub crowd-is-first : (rank v : ℕ) (fault : OverFault) → ((q w : ℕ) → q < rank → slice_get plan.order q ≡ Some w → slice_get stands w ≡ Some Done) → slice_get plan.order rank ≡ Some v → slice_get stands v ≡ Some (Crowded fault) → refusal_of plan rows ≡ Some (over_told fault)
  crowd-is-first rank v fault below e at =
      let node = get-some plan.net.nodes v (laws.ranks plan rank v e).inside in
      laws.first plan rows read rank v node.0 (over_told fault) e node.1 (fine-below rank below) (r.told v node.0 (Crowded fault) node.1 at)

  pub late-is-first : (rank v : ℕ) (fault : PastFault) → ((q w : ℕ) → q < rank → slice_get plan.order q ≡ Some w → slice_get stands w ≡ Some Done) → slice_get plan.order rank ≡ Some v → slice_get stands v ≡ Some (Late fault) → refusal_of plan rows ≡ Some (past_told fault)
  late-is-first rank v fault below e at =
      let node = get-some plan.net.nodes v (laws.ranks plan rank v e).inside in
      laws.first plan rows read rank v node.0 (past_told fault) e node.1 (fine-below rank below) (r.told v node.0 (Late fault) node.1 at)

  -- it does not wait, since all that it reads is done
  pub none-waits : (rank v : ℕ) → ((q w : ℕ) → q < rank → slice_get plan.order q ≡ Some w → slice_get stands w ≡ Some Done) → slice_get plan.order rank ≡ Some v → slice_get stands v ≡ Some Waiting → filter (is_ready plan.net.nodes stands) plan.order ≡ [] → ⊥
  none-waits rank v below e at stuck =
      let node = get-some plan.net.nodes v (laws.ranks plan rank v e).inside in
      let reads : list_all (is_read stands) node.0.inputs ≡ true = all-pass (is_read stands) node.0.inputs (λ port input g.
      let before = (laws.ranks plan rank v e).reads port (input.node, input.out) (ap (λ o. slice_get (outputs_read o) port) node.1 ∙ (slice_get-map _ node.0.inputs port ∙ ap (option_map (λ (i : Input). (i.node, i.out))) g)) in
      let index = has-index (take rank plan.order) input.node before in
      let front = get-take plan.order rank index.0 input.node index.1 in
      ap (stands_at is_done) (below index.0 input.node front.0 front.1)) in
      let ready : is_ready plan.net.nodes stands v ≡ true = (λ k. stands_at is_waiting (at k) && reads_done stands (node.1 k)) ∙ reads in
      let fails = filter-none (is_ready plan.net.nodes stands) plan.order rank v stuck e in
      absurd cc

  pub done-more : (rank v : ℕ) → ((q w : ℕ) → q < rank → slice_get plan.order q ≡ Some w → slice_get stands w ≡ Some Done) → slice_get plan.order rank ≡ Some v → slice_get stands v ≡ Some Done → (q w : ℕ) → q < rank + 1 → slice_get plan.order q ≡ Some w → slice_get stands w ≡ Some Done
  done-more rank v below e at q w l g = go (cases_lt q rank)
    where
      go : (q < rank) ⊎ (rank ≤ q) → slice_get stands w ≡ Some Done
      go (inl less) = below q w less g
      go (inr more) =
          let same : q ≡ rank = omega arith in
          let node : v ≡ w = some_inj _ _ (sym e ∙ (ap (slice_get plan.order) (sym same) ∙ g)) in
          ap (slice_get stands) (sym node) ∙ at

  -- all are done
  module _ (all : (q v : ℕ) → q < length plan.order → slice_get plan.order q ≡ Some v → slice_get stands v ≡ Some Done) where
    pub each-done : (v : ℕ) (node : Node) → slice_get plan.net.nodes v ≡ Some node → slice_get stands v ≡ Some Done
    each-done v node e =
        let index = has-index plan.order v (plan.whole v (slice_get_within plan.net.nodes v node e)) in
        all index.0 v (slice_get_within plan.order index.0 v index.1) index.1

    pub none-refused : refusal_of plan rows ≡ None
    none-refused = laws.none plan rows read (fine-below (length plan.order) all)

-- what is reached has the stands of the run
pub reached-stands : (plan : Plan) (rows : Rows) (visits : List Visits) (outputs : List (List Stream)) (stands : List Stand) → IsReached plan rows visits outputs stands → HaveStands plan rows stands
reached-stands plan rows visits outputs stands r = record { stand = r.stand; told = λ v node at there e. stands-told v node at (r.told v node at there e) }
  where
    stands-told : (v : ℕ) (node : Node) (at : Stand) → Tells plan rows visits outputs v node at → StandsAt plan rows v node at
    stands-told v node Waiting h = tt
    stands-told v node Done h = h.1
    stands-told v node (Crowded fault) h = h
    stands-told v node (Late fault) h = h

-- where all are done, the run
pub run-done : (laws : CoreLaws) (plan : Plan) (rows : Rows) (visits : List Visits) (outputs : List (List Stream)) (stands : List Stand) → IsReached plan rows visits outputs stands → ((v : ℕ) (node : Node) → slice_get plan.net.nodes v ≡ Some node → slice_get stands v ≡ Some Done) →
    IsRunOf plan rows (record { visits = visits; outputs = outputs })
run-done laws plan rows visits outputs stands r done = laws.runs plan rows (record { visits = visits; outputs = outputs }) r.came r.left (λ v node e. (r.told v node Done e (done v node e)).0)
