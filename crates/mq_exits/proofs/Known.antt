-- That what a node gives is what the run has.
use Rattle.std.proofs.Common.{◌≡◌, ℕ, ◌^◌, ◌<◌, ◌≤◌, Bool, true, false, cond, List, length, Option, Some, None, refl, sym, ap, ◌∙◌, subst, arith}
use Rattle.std.specs.Prelude.{nat_lt, slice_get}
use Rattle.std.specs.Option.{option_map}
use Rattle.std.proofs.lemmas.Bool.Decides.{nat_tests}
use Rattle.std.proofs.lemmas.List.{length-map}
use Rattle.std.proofs.lemmas.Option.{slice_get_within}
use Rattle.mq_base.proofs.lemmas.Lists.{some_inj}
use Rattle.mq_base.proofs.lemmas.Each.{Each-weaker}
use Rattle.mq_stations.proofs.lemmas.Leaves.{once-leaves}
use Rattle.mq_core.proofs.lemmas.Plans.{within-limits}
use Rattle.mq_core.specs.Came.{came_by, came_in, came_of}
use Rattle.mq_core.specs.SequenceLaws.{StreamsRise, jobs_of, sends_once}
use Rattle.mq_core.specs.Sequences.{IsStream, sequence_fates, sequence_late_from, sequence_outs, sequence_refusal, sequence_stream, sequence_visits, streams_below}
use Rattle.mq_core.specs.OnceOut.{leaving_times}
use Rattle.mq_core.specs.Streams.{picked}
use Rattle.mq_core.specs.Results.{Late as LateVisit, first_of, most_visits, stream_from, visits_of}
use Rattle.mq_core.specs.Results.Refusal.{Over, Past}
use Rattle.mq_core.specs.RunLaws.{OutputsHaveStreams}
use Rattle.mq_core.specs.Sound.{outputs_in}
use Rattle.mq_core.specs.StandardTable.{run_of}
use Rattle.mq_core.specs.Theorems.{IsReadFor}
use Rattle.mq_core.specs.declared.model.Node.{Node}
use Rattle.mq_core.specs.declared.model.Plan.{Plan}
use Rattle.mq_core.specs.declared.model.Rows.{Rows}
use Rattle.mq_core.specs.declared.model.Stream.{Stream}
use Rattle.mq_core.specs.declared.model.Visits.{Visits}
use Rattle.mq_stations.specs.Leaving.{AreStreams, IsLoad}
use Rattle.mq_stations.proofs.lemmas.Late.{none-late}
use Rattle.mq_exits.specs.Loads.{IsArrived}
use Rattle.mq_exits.specs.NodeLaws.{NodeLaws}
use Rattle.mq_exits.specs.Results.{IsEnding, IsKnown, IsResult}
use Rattle.mq_exits.specs.declared.working.Ending.{Ending}
use Rattle.mq_exits.specs.declared.working.Ending.TheVariants.{OnTime, TooMany, TooLate}
use Rattle.mq_exits.proofs.Early.{EarlyTimes, leaving-early, picked-early}

-- A refusal. Of a node with no more visits than it may have it is the first late visit.
pub refusal-few : (bound v : ℕ) (visits : Visits) (first : Option LateVisit) → length visits.job ≤ 1048576 → first_of (sequence_late_from bound v 0 visits.fate) ≡ first → sequence_refusal bound v visits ≡ option_map (λ late. Past late) first
refusal-few bound v visits first few e =
    let below : nat_lt most_visits (length visits.job) ≡ false = grind (arith, nat_tests) in
    λ k. cond (below k) (Some (Over v (length visits.job))) (option_map (λ late. Past late) (e k))

-- of one with more it is that
pub refusal-many : (bound v count : ℕ) (visits : Visits) → length visits.job ≡ count → 1048576 < count → sequence_refusal bound v visits ≡ Some (Over v count)
refusal-many bound v count visits e more =
    let above : nat_lt most_visits (length visits.job) ≡ true = grind (arith, nat_tests) in
    (λ k. cond (above k) (Some (Over v (length visits.job))) (option_map (λ late. Past late) (first_of (sequence_late_from bound v 0 visits.fate)))) ∙ ap (λ n. Some (Over v n)) e

-- a node that isn't refused has no more
pub fine-few : (bound v : ℕ) (visits : Visits) → sequence_refusal bound v visits ≡ None → length visits.job ≤ 1048576
fine-few bound v visits h = go (nat_lt most_visits (length visits.job)) refl h
  where
    go : (b : Bool) → nat_lt most_visits (length visits.job) ≡ b → cond b (Some (Over v (length visits.job))) (option_map (λ late. Past late) (first_of (sequence_late_from bound v 0 visits.fate))) ≡ None → length visits.job ≤ 1048576
    go true e k = absurd cc
    go false e k = grind (arith, nat_tests)

-- what is worked out of the node is what the run has
made : (laws : NodeLaws) (plan : Plan) (rows : Rows) (v : ℕ) (node : Node) (arrivals : Stream) (came : Visits) (left : List Stream) → IsReadFor plan.net rows → slice_get plan.net.nodes v ≡ Some node → sends_once node.kind ≡ true → IsArrived plan rows v arrivals → IsResult rows node.kind arrivals came left →
    (came ≡ visits_of node.kind ((run_of plan rows).stations v)) × (left ≡ streams_below (run_of plan rows) v (outputs_in node.kind))
made laws plan rows v node arrivals came left read there once a t =
    let c = laws.sequences plan rows read v node there in
    let blind = laws.blind rows node.kind (came_of (length node.inputs) ((run_of plan rows).stations v).visits) (once-leaves node.kind once) in (
      t.sequences ∙ ((λ k. sequence_visits rows node.kind (came_by (a.job k) (a.time k))) ∙ sym (c.visits ∙ blind.visits)),
      laws.make (run_of plan rows) v (outputs_in node.kind) left t.outflow.count (λ out l. t.outflow.each out l ∙ ((λ k. Some (sequence_stream rows node.kind (came_by (a.job k) (a.time k)) out)) ∙ ap Some (sym (c.stream out ∙ blind.stream out)))),
    )

-- why it is refused is what the run says
pub same-late : (laws : NodeLaws) (plan : Plan) (rows : Rows) (v : ℕ) (node : Node) (arrivals : Stream) (first : Option LateVisit) → IsReadFor plan.net rows → slice_get plan.net.nodes v ≡ Some node → sends_once node.kind ≡ true → IsArrived plan rows v arrivals → length arrivals.time ≤ 1048576 →
    first_of (sequence_late_from plan.net.bound v 0 (sequence_fates rows node.kind (came_in arrivals))) ≡ first →
    sequence_refusal plan.net.bound v (visits_of node.kind ((run_of plan rows).stations v)) ≡ option_map (λ late. Past late) first
same-late laws plan rows v node arrivals first read there once a few h =
    let xs = ((run_of plan rows).stations v).visits in
    let many : length (jobs_of xs) ≡ length arrivals.time = length-map xs _ ∙ (sym (length-map xs _) ∙ ap length (sym a.time)) in
    refusal-few plan.net.bound v (visits_of node.kind ((run_of plan rows).stations v)) first (omega arith)
    (ap (λ (x : Visits). first_of (sequence_late_from plan.net.bound v 0 x.fate)) ((laws.sequences plan rows read v node there).visits ∙ (laws.blind rows node.kind (came_of (length node.inputs) xs) (once-leaves node.kind once)).visits)
    ∙ ((λ k. first_of (sequence_late_from plan.net.bound v 0 (sequence_fates rows node.kind (came_by (sym a.job k) (sym a.time k))))) ∙ h))

-- the streams of a node whose visits are on time are early
left-early : (laws : NodeLaws) (plan : Plan) (rows : Rows) (v : ℕ) (node : Node) (arrivals : Stream) (left : List Stream) → sends_once node.kind ≡ true → EarlyTimes arrivals.time → AreStreams rows node.kind arrivals left →
    first_of (sequence_late_from plan.net.bound v 0 (sequence_fates rows node.kind (came_in arrivals))) ≡ None → (out : ℕ) (stream : Stream) → slice_get left out ≡ Some stream → EarlyTimes stream.time
left-early laws plan rows v node arrivals left once came t h out stream e =
    let inside : out < outputs_in node.kind = subst (λ m. out < m) t.count (slice_get_within left out stream e) in
    let bound = (within-limits plan).1 in
    subst (λ (s : Stream). EarlyTimes s.time) (sym ((laws.go rows node.kind (came_in arrivals) once).stream out) ∙ some_inj _ _ (sym (t.each out inside) ∙ e))
    ((laws.keeps node.kind (record { job = picked out (sequence_outs rows node.kind (came_in arrivals)) arrivals.job; time = picked out (sequence_outs rows node.kind (came_in arrivals)) (leaving_times arrivals.time (sequence_fates rows node.kind (came_in arrivals))) })).times (2 ^ 60)
    (picked-early out (sequence_outs rows node.kind (came_in arrivals)) (leaving_times arrivals.time (sequence_fates rows node.kind (came_in arrivals)))
    (leaving-early arrivals.time (sequence_fates rows node.kind (came_in arrivals)) came
    (Each-weaker (λ time. time ≤ plan.net.bound) (λ time. time ≤ 2 ^ 60) (λ time l. omega arith) _ (none-late plan.net.bound v 0 (sequence_fates rows node.kind (came_in arrivals)) h)))))

-- a stream that leaves a node of the run is in order
pub left-ordered : OutputsHaveStreams → StreamsRise → (plan : Plan) (rows : Rows) (v outs out : ℕ) (left : List Stream) (stream : Stream) → left ≡ streams_below (run_of plan rows) v outs → length left ≡ outs → slice_get left out ≡ Some stream → IsStream stream
left-ordered have rise plan rows v outs out left stream e count g =
    let inside : out < outs = subst (λ m. out < m) count (slice_get_within left out stream g) in
    let same : stream_from ((run_of plan rows).stations v) out ≡ stream = some_inj _ _ (sym (have (run_of plan rows) v outs out inside) ∙ (ap (λ (l : List Stream). slice_get l out) (sym e) ∙ g)) in
    subst IsStream same ((rise plan rows v).streams out)

-- what a node that was worked out gives is what the run has
pub known : (laws : NodeLaws) (plan : Plan) (rows : Rows) (v : ℕ) (node : Node) (arrivals : Stream) (ending : Ending) → IsReadFor plan.net rows → sends_once node.kind ≡ true → IsArrived plan rows v arrivals → IsLoad rows node.kind arrivals → slice_get plan.net.nodes v ≡ Some node →
    IsEnding plan.net rows v node.kind arrivals ending → IsKnown plan rows v node ending
known laws plan rows v node arrivals (OnTime came left) read once is load there h =
    let new = made laws plan rows v node arrivals came left read there once is h.0 in (
      new.0,
      new.1,
      λ out stream g. record {
        ordered = left-ordered laws.have laws.streams plan rows v (outputs_in node.kind) out left stream new.1 h.0.outflow.count g;
        early = left-early laws plan rows v node arrivals left once load.ordered.early h.0.outflow h.1 out stream g;
      },
      same-late laws plan rows v node arrivals None read there once is load.few h.1,
    )
known laws plan rows v node arrivals (TooMany fault) read once is load there h = absurd h
known laws plan rows v node arrivals (TooLate fault) read once is load there h = same-late laws plan rows v node arrivals _ read there once is load.few h
