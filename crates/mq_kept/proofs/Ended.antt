-- How the one node that is ready ended.
use Rattle.mq_arrivals.specs.Arrivals.{HasArrived}
use Rattle.mq_arrivals.specs.declared.nodes.Arrived.{Arrived}
use Rattle.mq_arrivals.specs.declared.nodes.Arriving.{Arriving}
use Rattle.mq_base.proofs.lemmas.Each.{Each-back}
use Rattle.mq_base.proofs.lemmas.Lists.{get-some, some_inj}
use Rattle.mq_core.specs.Came.{came_in}
use Rattle.mq_core.specs.Results.{visits_of}
use Rattle.mq_core.specs.Sequences.{sequence_fates}
use Rattle.mq_core.specs.StandardTable.{run_of}
use Rattle.mq_core.specs.Theorems.{IsReadFor}
use Rattle.mq_core.specs.declared.model.Node.{Node}
use Rattle.mq_core.specs.declared.model.Plan.{Plan}
use Rattle.mq_core.specs.declared.model.Rows.{Rows}
use Rattle.mq_core.specs.declared.model.Stream.{Stream}
use Rattle.mq_core.specs.declared.model.Visits.{Visits}
use Rattle.mq_engine.proofs.Telling.{serves}
use Rattle.mq_engine.proofs.Waves.{has-loaded}
use Rattle.mq_engine.specs.CoreLaws.{CoreLaws}
use Rattle.mq_engine.specs.Progress.{CanWork, CanWorkAll, HasAll}
use Rattle.mq_engine.specs.Waves.{IsCrowded, IsWave}
use Rattle.mq_engine.specs.declared.fault.RunFault.TheVariants.{Memory, Over, Past}
use Rattle.mq_engine.specs.declared.fault.RunFault.{RunFault}
use Rattle.mq_exits.proofs.Known.{refusal-many}
use Rattle.mq_exits.specs.Loads.{IsLoaded, IsReadyLoad}
use Rattle.mq_exits.specs.Results.{IsKnown, IsResultOf, IsWorkedOut}
use Rattle.mq_exits.specs.declared.load.Held.{Held}
use Rattle.mq_exits.specs.declared.load.Load.{Load}
use Rattle.mq_exits.specs.declared.working.Ending.TheVariants.{OnTime, TooLate, TooMany}
use Rattle.mq_exits.specs.declared.working.Ending.{Ending}
use Rattle.mq_exits.specs.declared.working.NodeResult.{NodeResult}
use Rattle.mq_kept.proofs.SameNodes.{visits-by}
use Rattle.mq_kept.specs.KeptNodes.{IsKeptNode, coming_of}
use Rattle.mq_kept.specs.Formers.{FitsIn, lists_before}
use Rattle.mq_kept.specs.NodeRuns.{IsFaultAt, IsFaultOf, IsNodeKept, IsNodeRun, again_behind, blocks_at, came_before}
use Rattle.mq_kept.specs.TailRuns.{IsTailRun}
use Rattle.mq_kept.specs.declared.checkpoints.Checkpoints.{Checkpoints}
use Rattle.mq_kept.specs.declared.former.Former.TheVariants.{Whole}
use Rattle.mq_kept.specs.declared.former.NodeLists.{NodeLists}
use Rattle.mq_kept.specs.declared.nodes.NodeRefusal.{NodeRefusal}
use Rattle.mq_kept.specs.declared.nodes.NodeRun.{NodeRun}
use Rattle.mq_merge.specs.Borrowed.{stream_in}
use Rattle.mq_redo.specs.Kept.{coming_as}
use Rattle.std.proofs.Common.{◌≡◌, ℕ, zero, suc, ◌^◌, ◌<◌, List, [], ◌∷◌, ◌++◌, length, get_or, Option, Some, sym, ap, ◌∙◌, subst, arith}
use Rattle.std.proofs.lemmas.List.{length-map}
use Rattle.std.proofs.lemmas.Option.{slice_get-get_or}
use Rattle.std.specs.List.{AllByRecursion as Each}
use Rattle.std.specs.Prelude.{Contains, IfErr, IfOk, OnOk, Result, Ok, Err, slice_get}

-- the only node that is ready
pub contains-one : (v w : ℕ) → Contains (v ∷ []) w → w ≡ v
contains-one v w h = go h.0 h.1 h.2
  where
    go : (i : ℕ) → i < 1 → get_or (v ∷ []) i w ≡ w → w ≡ v
    go zero l e = sym e
    go (suc i) l e = absurd (omega arith)

-- how it ended, by its number
module _ (plan : Plan) (rows : Rows) (v : ℕ) where
  pub result-at : (r : NodeResult) → IsResultOf plan rows (v ∷ []) r → IsWorkedOut plan rows (record { number = v; ending = r.ending })
  result-at r h = subst (λ (n : ℕ). IsWorkedOut plan rows (record { number = n; ending = r.ending })) (contains-one v r.number h.0) h.1

  pub ended-so : (ending ending' : Ending) → ending ≡ ending' → IsWorkedOut plan rows (record { number = v; ending = ending }) → IsWorkedOut plan rows (record { number = v; ending = ending' })
  ended-so ending ending' e = subst (λ (x : Ending). IsWorkedOut plan rows (record { number = v; ending = x })) e

  -- with a fault
  pub fault-at : (ending : Ending) (fault : RunFault) → IsWorkedOut plan rows (record { number = v; ending = ending }) → IsFaultOf ending fault → IsFaultAt plan rows v fault
  fault-at ending (Over fault) w h = ended-so ending (TooMany fault) h w
  fault-at ending (Past fault) w h = ended-so ending (TooLate fault) h w
  fault-at ending Memory w h = tt

  -- with too many visits
  pub crowded-at : (count : ℕ) → v < length plan.net.nodes → IsCrowded plan rows v count → IsFaultAt plan rows v (Over (record { node = v; count = count }))
  crowded-at count inside many =
      let at = get-some plan.net.nodes v inside in
      let xs = ((run_of plan rows).stations v).visits in
      (at.0, at.1, refusal-many plan.net.bound v count (visits_of at.0.kind ((run_of plan rows).stations v)) (length-map xs _ ∙ many.0) many.1)

-- what is kept of a station that was gone through again is kept of its visits
pub worked-checkpoints : (laws : CoreLaws) (plan : Plan) (rows : Rows) (v block : ℕ) (arrivals : Stream) (visits : Visits) (streams : List Stream) (checkpoints : Checkpoints) → IsReadFor plan.net rows → IsLoaded plan rows v arrivals → IsWorkedOut plan rows (record { number = v; ending = OnTime visits streams }) →
    ((node : Node) → slice_get plan.net.nodes v ≡ Some node → IsKeptNode node.kind (coming_as rows arrivals) block (sequence_fates rows node.kind (came_in arrivals)) checkpoints) →
    (node : Node) → slice_get plan.net.nodes v ≡ Some node → IsKeptNode node.kind (coming_of rows visits) block visits.fate checkpoints
worked-checkpoints laws plan rows v block arrivals visits streams checkpoints read loaded w kept node there =
    let mine = some_inj w.0 loaded.node (sym w.1 ∙ loaded.there) in
    let known = subst (λ (n : Node). IsKnown plan rows v n (OnTime visits streams)) mine w.2 in
    let is = visits-by laws plan rows v arrivals visits streams read loaded known in
    subst (λ (n : Node). IsKeptNode n.kind (coming_of rows visits) block visits.fate checkpoints) (some_inj loaded.node node (sym loaded.there ∙ there))
    (subst (λ (x : Visits). IsKeptNode loaded.node.kind (coming_of rows x) block x.fate checkpoints) (sym is) (kept loaded.node loaded.there))

-- the only station that is ready can be worked out
pub can-one : (s : Arriving) (v : ℕ) → s.ready.now ≡ v ∷ [] → CanWork s.plan.now s.rows.now s.outputs.now v → CanWorkAll s.plan.now s.rows.now s.outputs.now s.ready.now
can-one s v one can = subst (CanWorkAll s.plan.now s.rows.now s.outputs.now) (sym one) here
  where
    here : CanWorkAll s.plan.now s.rows.now s.outputs.now (v ∷ [])
    here zero w e = subst (CanWork s.plan.now s.rows.now s.outputs.now) (some_inj v w e) can
    here (suc k) w e = absurd cc

-- what came to it, and that it can be worked on
pub held-one : (laws : CoreLaws) (s : Arriving) (v : ℕ) (all rest : List Arrived) (arrived : Arrived) → IsWave s → s.ready.now ≡ v ∷ [] → CanWork s.plan.now s.rows.now s.outputs.now v → Each (HasArrived s) all → all ≡ rest ++ arrived ∷ [] →
    IsLoaded s.plan.now s.rows.now arrived.number (stream_in arrived.arrivals) × (arrived.number ≡ v)
held-one laws s v all rest arrived wave one can each e =
    let ready = ap length one in
    let can' = can-one s v one can in
    let here = (Each-back (HasArrived s) rest (arrived ∷ []) (subst (Each (HasArrived s)) e each)).0 in
    let arriving = serves s wave.read wave.early can' (omega arith) wave.block in (
      (has-loaded laws s arrived arriving wave.early can' here).0,
      contains-one v arrived.number (subst (λ (l : List ℕ). Contains l arrived.number) one here.ready),
    )

-- The only result of a node.
pub ended-known : (plan : Plan) (rows : Rows) (v : ℕ) (results : List NodeResult) (r : NodeResult) → results ≡ r ∷ [] → Each (IsResultOf plan rows (v ∷ [])) results → IsWorkedOut plan rows (record { number = v; ending = r.ending })
ended-known plan rows v results r e all = result-at plan rows v r (subst (Each (IsResultOf plan rows (v ∷ []))) e all).0

-- how it ended
pub ended-fault : (plan : Plan) (rows : Rows) (v : ℕ) (ending : Ending) (result : Result NodeLists RunFault) → IsWorkedOut plan rows (record { number = v; ending = ending }) → IfErr result (IsFaultOf ending) → IfErr result (IsFaultAt plan rows v)
ended-fault plan rows v ending (Ok lists) w h = tt
ended-fault plan rows v ending (Err fault) w h = fault-at plan rows v ending fault w h

-- its lists
pub ended-on_time : (plan : Plan) (rows : Rows) (v : ℕ) (ending : Ending) (result : Result NodeLists RunFault) → IsWorkedOut plan rows (record { number = v; ending = ending }) → IfOk result (λ lists. ending ≡ OnTime lists.visits lists.streams) →
    IfOk result (λ lists. IsWorkedOut plan rows (record { number = v; ending = OnTime lists.visits lists.streams }))
ended-on_time plan rows v ending (Ok lists) w e = ended-so plan rows v ending (OnTime lists.visits lists.streams) e w
ended-on_time plan rows v ending (Err fault) w e = tt

pub ended-checkpoints : (laws : CoreLaws) (plan : Plan) (rows : Rows) (v block : ℕ) (arrivals : Stream) (ending : Ending) (checkpoints : Checkpoints) (result : Result NodeLists RunFault) → IsReadFor plan.net rows → IsLoaded plan rows v arrivals → IsWorkedOut plan rows (record { number = v; ending = ending }) →
    IfOk result (λ lists. ending ≡ OnTime lists.visits lists.streams) → IfOk result (λ lists. lists.checkpoints ≡ checkpoints) →
    ((node : Node) → slice_get plan.net.nodes v ≡ Some node → IsKeptNode node.kind (coming_as rows arrivals) block (sequence_fates rows node.kind (came_in arrivals)) checkpoints) →
    IfOk result (λ lists. (node : Node) → slice_get plan.net.nodes v ≡ Some node → IsKeptNode node.kind (coming_of rows lists.visits) block lists.visits.fate lists.checkpoints)
ended-checkpoints laws plan rows v block arrivals ending checkpoints (Ok lists) read loaded w e m kept =
    worked-checkpoints laws plan rows v block arrivals lists.visits lists.streams lists.checkpoints read loaded (ended-so plan rows v ending (OnTime lists.visits lists.streams) e w)
    (λ node there. subst (IsKeptNode node.kind (coming_as rows arrivals) block (sequence_fates rows node.kind (came_in arrivals))) (sym m) (kept node there))
ended-checkpoints laws plan rows v block arrivals ending checkpoints (Err fault) read loaded w e m kept = tt

-- What a node gives whose lists were made anew.
pub changed-run : (s : Arriving) (old : Option Rows) (lists : NodeLists) (v again all : ℕ) (made : Result NodeLists RunFault) (result : Result NodeRun NodeRefusal) → again ≡ again_behind s (came_before s.rows.now old lists) v → all ≡ blocks_at s v → again < 2 ^ 32 → all < 2 ^ 32 →
    IfOk made (IsNodeKept s.plan.now s.rows.now s.block v) → IfOk result (λ gives. (made ≡ Ok gives.lists) × (gives.former ≡ Whole lists) × (gives.again ≡ again) × (gives.all ≡ all)) → IfOk result (IsNodeRun s old lists v)
changed-run s old lists v again all made (Ok gives) a b few few' kept h = record {
  kept = subst (λ r. IfOk r (IsNodeKept s.plan.now s.rows.now s.block v)) h.0 kept;
  back = ap (λ f. lists_before f gives.lists) h.1;
  fits = subst (λ f. FitsIn f gives.lists) (sym h.1) tt;
  stayed = λ same. absurd (let differ = sym h.1 ∙ same in cc);
  again = h.2 ∙ a;
  all = h.3 ∙ b;
  again_few = subst (λ (n : ℕ). n < 2 ^ 32) (sym h.2) few;
  all_few = subst (λ (n : ℕ). n < 2 ^ 32) (sym h.3) few';
}
changed-run s old lists v again all made (Err refusal) a b few few' kept h = tt

-- What a node gives whose lists were edited in place.
pub tail-gives : (s : Arriving) (old : Option Rows) (lists : NodeLists) (v again all : ℕ) (load : Load) → load.plan.now ≡ s.plan.now → load.rows.now ≡ s.rows.now → load.block ≡ s.block → load.number ≡ v → again ≡ again_behind s (came_before s.rows.now old lists) v → all ≡ blocks_at s v → again < 2 ^ 32 → all < 2 ^ 32 →
    (gives : NodeRun) → IsTailRun load lists again all gives → IsNodeRun s old lists v gives
tail-gives s old lists v again all load p r b n a d few few' gives h = record {
  kept = subst (λ (t : Plan × Rows × ℕ × ℕ). IsNodeKept t.0 t.1 t.2 t.3 gives.lists) (λ i. (p i, r i, b i, n i)) h.kept;
  back = ap (λ f. lists_before f gives.lists) h.former ∙ h.back;
  fits = subst (λ f. FitsIn f gives.lists) (sym h.former) h.fits;
  stayed = λ same. absurd (let differ = sym h.former ∙ same in cc);
  again = h.again_is ∙ a;
  all = h.all_is ∙ d;
  again_few = subst (λ (m : ℕ). m < 2 ^ 32) (sym h.again_is) few;
  all_few = subst (λ (m : ℕ). m < 2 ^ 32) (sym h.all_is) few';
}

-- what holds where they were made
pub changed-ok : (X : Type 0) (lists : NodeLists) (again all : ℕ) (made : Result NodeLists RunFault) (result : Result NodeRun NodeRefusal) → OnOk made X → IfOk result (λ gives. (made ≡ Ok gives.lists) × (gives.former ≡ Whole lists) × (gives.again ≡ again) × (gives.all ≡ all)) → OnOk result X
changed-ok X lists again all made (Ok gives) ok h = subst (λ r. OnOk r X) h.0 ok
changed-ok X lists again all made (Err refusal) ok h = tt

-- what is kept of lists that were made
pub kept-lists : (plan : Plan) (rows : Rows) (v block : ℕ) (made : Result NodeLists RunFault) → IfOk made (λ lists. IsWorkedOut plan rows (record { number = v; ending = OnTime lists.visits lists.streams })) →
    IfOk made (λ lists. (node : Node) → slice_get plan.net.nodes v ≡ Some node → IsKeptNode node.kind (coming_of rows lists.visits) block lists.visits.fate lists.checkpoints) → IfOk made (IsNodeKept plan rows block v)
kept-lists plan rows v block (Ok lists) known checkpoints = record { known = known; checkpoints = checkpoints }
kept-lists plan rows v block (Err fault) known checkpoints = tt

-- or the cause
pub changed-cause : (plan : Plan) (rows : Rows) (lists : NodeLists) (v : ℕ) (made : Result NodeLists RunFault) (result : Result NodeRun NodeRefusal) → IfErr made (IsFaultAt plan rows v) → IfErr result (λ refusal. (made ≡ Err refusal.fault) × (refusal.lists ≡ lists)) → IfErr result (λ refusal. IsFaultAt plan rows v refusal.fault)
changed-cause plan rows lists v made (Ok gives) cause h = tt
changed-cause plan rows lists v made (Err refusal) cause h = subst (λ r. IfErr r (IsFaultAt plan rows v)) h.0 cause

-- what is held is what came to the one station
pub loaded-at : (held : Held) (plan : Plan) (rows : Rows) (v : ℕ) (arrivals : Stream) → IsReadyLoad held → held.plan.now ≡ plan → held.rows.now ≡ rows → held.number ≡ v → arrivals ≡ stream_in held.arrivals → IsLoaded plan rows v arrivals
loaded-at held plan rows v arrivals ready a b c d = subst (λ (t : Plan × Rows × ℕ × Stream). IsLoaded t.0 t.1 t.2 t.3) (λ i. (a i, b i, c i, sym d i)) ready.1

-- to the only node that is ready all has come
pub ready-all : (s : Arriving) → IsWave s → length s.ready.now ≡ 1 → HasAll s.plan.now s.rows.now s.outputs.now (get_or s.ready.now 0 0)
ready-all s wave one = wave.all 0 (get_or s.ready.now 0 0) (slice_get-get_or s.ready.now 0 0 (omega arith))
