-- The stations of the kinds, one row a kind, and from it the sequences of a run.
use Rattle.std.proofs.Common.{List, Some, [], length, map, refl, subst, ℕ, ◌++◌, ◌∷◌, ◌≡◌}
use Rattle.std.specs.Prelude.{slice_get}
use Rattle.mq_core.specs.Came.{came_of}
use Rattle.mq_core.specs.SequenceLaws.{NodesAreSequences, arrives_of, jobs_of}
use Rattle.mq_core.specs.Sequences.{sequence_fates}
use Rattle.mq_core.specs.KindTable.{behaviour_of}
use Rattle.mq_core.specs.Fates.{leaves_with}
use Rattle.mq_core.specs.Machine.{Emission, Visit}
use Rattle.mq_core.specs.Results.{bare_time, fates_from}
use Rattle.mq_core.specs.StandardTable.{run_of}
use Rattle.mq_core.specs.Theorems.{IsReadFor}
use Rattle.mq_core.specs.declared.model.Kind.{Kind}
use Rattle.mq_core.specs.declared.model.Kind.TheVariants.{Source, Server, Delay, Loss, Tandem, ForkJoin, Split, Fork, Join, Trunk}
use Rattle.mq_core.specs.declared.model.Node.{Node}
use Rattle.mq_core.specs.declared.model.Plan.{Plan}
use Rattle.mq_core.specs.declared.model.Rows.{Rows}
use Rattle.mq_core.proofs.Counting.SequenceNumbers.{LeavesAs}
use Rattle.mq_core.proofs.Counting.Stays.{FatesStay}
use Rattle.mq_core.proofs.Sequences.SequenceFlow.{nodes-flow}
use Rattle.mq_core.proofs.Sequences.SequenceOrder.{streams-rise}
use Rattle.mq_core.proofs.Sequences.OnceEach.{once_each}
use Rattle.mq_core.proofs.EachKind.Ends.{end-fact}
use Rattle.mq_core.proofs.Fork.ForkStation.{fork-station}
use Rattle.mq_core.proofs.Join.JoinStation.{join-station}
use Rattle.mq_core.proofs.EachKind.Facts.{node_fact}
use Rattle.mq_core.proofs.EachKind.LawTable.{inside_of}
use Rattle.mq_core.proofs.EachKind.StationLaws.{HasFlowed, Reaches, StationLaws}
use Rattle.mq_core.proofs.EachKind.Tallied.{founds-are-counts, nodes-left}

pub station_of : (rows : Rows) (ports : ℕ) (kind : Kind) → StationLaws rows ports (behaviour_of kind) (inside_of rows ports kind)
station_of rows ports Source = once_each rows ports Source refl
station_of rows ports (Server demand) = once_each rows ports (Server demand) refl
station_of rows ports (Delay demand) = once_each rows ports (Delay demand) refl
station_of rows ports (Loss places demand) = once_each rows ports (Loss places demand) refl
station_of rows ports (Tandem stages) = once_each rows ports (Tandem stages) refl
station_of rows ports (ForkJoin branches) = once_each rows ports (ForkJoin branches) refl
station_of rows ports (Split route) = once_each rows ports (Split route) refl
station_of rows ports (Fork outputs) = fork-station rows ports outputs
station_of rows ports Join = join-station rows ports
station_of rows ports (Trunk servers demand) = once_each rows ports (Trunk servers demand) refl

-- a node at the end of the run
pub node-flowed : (plan : Plan) (rows : Rows) → IsReadFor plan.net rows → (v : ℕ) (node : Node) → slice_get plan.net.nodes v ≡ Some node → HasFlowed rows (length node.inputs) (behaviour_of node.kind) (inside_of rows (length node.inputs) node.kind) ((run_of plan rows).stations v)
node-flowed plan rows read v node e =
    let s = (run_of plan rows).stations v in
    record {
      node = v;
      now = (run_of plan rows).clock;
      fact = subst (λ o. node_fact rows o v s [] (run_of plan rows).clock) e (end-fact plan rows read v);
      left = nodes-flow plan rows read v node e;
      rise = (streams-rise plan rows v).arrivals;
    }

pub nodes-are-sequences : NodesAreSequences
nodes-are-sequences plan rows read v node e =
    let s = (run_of plan rows).stations v in
    let laws = station_of rows (length node.inputs) node.kind in
    let came = came_of (length node.inputs) s.visits in
    let flowed = node-flowed plan rows read v node e in
    let fates : fates_from node.kind s 0 s.visits ≡ sequence_fates rows node.kind came = laws.fares s flowed in
    let founds : map (λ (x : Visit). x.found) s.visits ≡ (behaviour_of node.kind).founds rows came = laws.finds s flowed (founds-are-counts plan rows read v node e) in
    record {
      visits = λ i. record { job = jobs_of s.visits; arrive = arrives_of s.visits; found = founds i; fate = fates i };
      stream = λ out. laws.streams s out flowed;
    }

-- a visit and the emission with which it leaves
pub nodes-leave : (plan : Plan) (rows : Rows) → IsReadFor plan.net rows → (v : ℕ) (node : Node) → slice_get plan.net.nodes v ≡ Some node → (p : ℕ) (x : Visit) (m : Emission) → slice_get ((run_of plan rows).stations v).visits p ≡ Some x → leaves_with node.kind ((run_of plan rows).stations v) p ≡ Some m → LeavesAs node.kind m x
nodes-leave plan rows read v node e p x m here leaves = (station_of rows (length node.inputs) node.kind).leaves ((run_of plan rows).stations v) (node-flowed plan rows read v node e) p x m here leaves

-- whenever something leaves, a visit departs or came
pub nodes-reach : (plan : Plan) (rows : Rows) → IsReadFor plan.net rows → (v : ℕ) (node : Node) → slice_get plan.net.nodes v ≡ Some node → (before after : List Emission) (m : Emission) → ((run_of plan rows).stations v).emitted ≡ before ++ m ∷ after → Reaches (behaviour_of node.kind) ((run_of plan rows).stations v) m
nodes-reach plan rows read v node e before after m inside = (station_of rows (length node.inputs) node.kind).reaches ((run_of plan rows).stations v) (node-flowed plan rows read v node e) before after m inside

-- no visit departs earlier than after its bare time
pub nodes-stay : (plan : Plan) (rows : Rows) → IsReadFor plan.net rows → (v : ℕ) (node : Node) → slice_get plan.net.nodes v ≡ Some node → FatesStay (bare_time rows node.kind) (jobs_of ((run_of plan rows).stations v).visits) (arrives_of ((run_of plan rows).stations v).visits) (fates_from node.kind ((run_of plan rows).stations v) 0 ((run_of plan rows).stations v).visits)
nodes-stay plan rows read v node e = (station_of rows (length node.inputs) node.kind).stays ((run_of plan rows).stations v) (node-flowed plan rows read v node e) (nodes-left plan rows v node e)
