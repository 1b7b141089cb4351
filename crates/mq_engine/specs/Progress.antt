-- How far a run has come: which nodes are done, which of them may be worked out next, and what that gives.
use Rattle.std.specs.Prelude.{◌≡◌, ◌<◌, ◌≤◌, ◌&&◌, ◌++◌, ◌∷◌, [], ℕ, suc, Bool, true, false, List, length, map, Option, Some, None, slice_get, slice_set}
use Rattle.std.specs.List.{AllByRecursion, list_all, zip}
use Rattle.mq_core.specs.Alone.{came}
use Rattle.mq_core.specs.Laws.{in_order_of}
use Rattle.mq_core.specs.SequenceLaws.{arrives_of, jobs_of, sends_once}
use Rattle.mq_core.specs.Sequences.{sequence_refusal}
use Rattle.mq_core.specs.Streams.{by_first}
use Rattle.mq_core.specs.Results.{visits_of}
use Rattle.mq_core.specs.RunLaws.{HasSequences}
use Rattle.mq_core.specs.StandardTable.{run_of}
use Rattle.mq_core.specs.Wiring.{is_source_kind}
use Rattle.mq_core.specs.declared.model.Input.{Input}
use Rattle.mq_core.specs.declared.model.Node.{Node}
use Rattle.mq_core.specs.declared.model.Plan.{Plan}
use Rattle.mq_core.specs.declared.model.Rows.{Rows}
use Rattle.mq_core.specs.declared.model.Stream.{Stream}
use Rattle.mq_core.specs.declared.model.Visits.{Visits}
use Rattle.mq_stations.specs.Leaving.{IsEarlyStream}
use Rattle.mq_arrivals.specs.Arrivals.{IsThere, arriving, pairs_read}
use Rattle.mq_exits.specs.Refusals.{over_told, past_told}
use Rattle.mq_exits.specs.Results.{IsWorkedOut}
use Rattle.mq_exits.specs.declared.working.NodeResult.{NodeResult}
use Rattle.mq_exits.specs.declared.working.Ending.{Ending}
use Rattle.mq_exits.specs.declared.working.Ending.TheVariants.{OnTime, TooMany, TooLate}
use Rattle.mq_engine.specs.declared.progress.Stand.{Stand}
use Rattle.mq_engine.specs.declared.progress.Stand.TheVariants.{Waiting, Done, Crowded, Late}

-- a node that is not worked out yet
abbrev pub is_waiting : Stand → Bool
is_waiting Waiting = true
is_waiting Done = false
is_waiting (Crowded fault) = false
is_waiting (Late fault) = false

-- a node whose sequences are there
abbrev pub is_done : Stand → Bool
is_done Waiting = false
is_done Done = true
is_done (Crowded fault) = false
is_done (Late fault) = false

abbrev pub stands_at : (Stand → Bool) → Option Stand → Bool
stands_at test None = false
stands_at test (Some stand) = test stand

-- the node that an input reads is done
abbrev pub is_read : List Stand → Input → Bool
is_read stands input = stands_at is_done (slice_get stands input.node)

abbrev pub reads_done : List Stand → Option Node → Bool
reads_done stands None = false
reads_done stands (Some node) = list_all (is_read stands) node.inputs

-- a node that is not worked out yet, while all that it reads is
abbrev pub is_ready : List Node → List Stand → ℕ → Bool
is_ready nodes stands v = stands_at is_waiting (slice_get stands v) && reads_done stands (slice_get nodes v)

-- the nodes of an order, and those that ports read, are nodes of the network
pub record AreWithin (nodes : List Node) (order : List ℕ) : Type 0 where
  pub ranked : (rank v : ℕ) → slice_get order rank ≡ Some v → v < length nodes
  pub reads : (v port : ℕ) (node : Node) (input : Input) → slice_get nodes v ≡ Some node → slice_get node.inputs port ≡ Some input → input.node < length nodes

-- what comes by these ports, the first of this number, port after port: time, port and job of each item
abbrev pub read_by : List (List Stream) → ℕ → List Input → List (ℕ × ℕ × ℕ)
read_by outputs port [] = []
read_by outputs port (input ∷ inputs) = map {B = ℕ × ℕ × ℕ} (λ (p : ℕ × ℕ). (p.0, port, p.1)) (pairs_read outputs input) ++ read_by outputs (suc port) inputs

-- all has come to a node: what it reads is there, no stream longer than that, and what comes to it is what comes in the run, with
-- the port of each and without
pub record HasAll (plan : Plan) (rows : Rows) (outputs : List (List Stream)) (v : ℕ) : Type 0 where
  pub inside : v < length plan.net.nodes
  pub there : (node : Node) (port : ℕ) (input : Input) → slice_get plan.net.nodes v ≡ Some node → slice_get node.inputs port ≡ Some input → IsThere outputs input
  pub short : (node : Node) (port : ℕ) (input : Input) → slice_get plan.net.nodes v ≡ Some node → slice_get node.inputs port ≡ Some input → length (pairs_read outputs input) ≤ 1048576
  pub comes : (node : Node) → slice_get plan.net.nodes v ≡ Some node →
      zip (arrives_of ((run_of plan rows).stations v).visits) (jobs_of ((run_of plan rows).stations v).visits) ≡ by_first (arriving rows v node outputs)
  pub ports : (node : Node) → slice_get plan.net.nodes v ≡ Some node → is_source_kind node.kind ≡ false →
      came ((run_of plan rows).stations v).visits ≡ in_order_of (λ (p : ℕ × ℕ × ℕ). p.0) (read_by outputs 0 node.inputs)

-- all has come to each of these nodes
abbrev pub HaveAll : Plan → Rows → List (List Stream) → List ℕ → Type 0
HaveAll plan rows outputs ready = (k v : ℕ) → slice_get ready k ≡ Some v → HasAll plan rows outputs v

-- a station can be worked out: it lets each job out once, alone, what it reads is there, and what comes to it is what comes in the
-- run, no more than a node may have
pub record CanWork (plan : Plan) (rows : Rows) (outputs : List (List Stream)) (v : ℕ) : Type 0 where
  pub inside : v < length plan.net.nodes
  pub there : (node : Node) (port : ℕ) (input : Input) → slice_get plan.net.nodes v ≡ Some node → slice_get node.inputs port ≡ Some input → IsThere outputs input
  pub comes : (node : Node) → slice_get plan.net.nodes v ≡ Some node →
      zip (arrives_of ((run_of plan rows).stations v).visits) (jobs_of ((run_of plan rows).stations v).visits) ≡ by_first (arriving rows v node outputs)
  pub few : length ((run_of plan rows).stations v).visits ≤ 1048576
  pub once : (node : Node) → slice_get plan.net.nodes v ≡ Some node → sends_once node.kind ≡ true

-- all of these stations can
abbrev pub CanWorkAll : Plan → Rows → List (List Stream) → List ℕ → Type 0
CanWorkAll plan rows outputs ready = (k v : ℕ) → slice_get ready k ≡ Some v → CanWork plan rows outputs v

-- what was worked out of these nodes is what the run has
abbrev pub AreWorkedOut : Plan → Rows → List NodeResult → Type 0
AreWorkedOut plan rows results = AllByRecursion (IsWorkedOut plan rows) results

-- what stands at a node is what the run has
abbrev pub Tells : Plan → Rows → List Visits → List (List Stream) → ℕ → Node → Stand → Type 0
Tells plan rows visits outputs v node Waiting = Unit {0}
Tells plan rows visits outputs v node Done =
    HasSequences (run_of plan rows) (record { visits = visits; outputs = outputs }) v node
    × (sequence_refusal plan.net.bound v (visits_of node.kind ((run_of plan rows).stations v)) ≡ None)
Tells plan rows visits outputs v node (Crowded fault) =
    sequence_refusal plan.net.bound v (visits_of node.kind ((run_of plan rows).stations v)) ≡ Some (over_told fault)
Tells plan rows visits outputs v node (Late fault) =
    sequence_refusal plan.net.bound v (visits_of node.kind ((run_of plan rows).stations v)) ≡ Some (past_told fault)

-- what ended on time is put at its node, and what ended with a fault leaves it there
abbrev pub IsEndPut : ℕ → Ending → List Visits → List (List Stream) → List Stand → List Visits → List (List Stream) → List Stand → Type 0
IsEndPut v (OnTime came left) visits outputs stands visits' outputs' stands' =
    (visits' ≡ slice_set visits v came) × (outputs' ≡ slice_set outputs v left) × (stands' ≡ slice_set stands v Done)
IsEndPut v (TooMany fault) visits outputs stands visits' outputs' stands' =
    (visits' ≡ visits) × (outputs' ≡ outputs) × (stands' ≡ slice_set stands v (Crowded fault))
IsEndPut v (TooLate fault) visits outputs stands visits' outputs' stands' =
    (visits' ≡ visits) × (outputs' ≡ outputs) × (stands' ≡ slice_set stands v (Late fault))

abbrev pub IsPut : NodeResult → List Visits → List (List Stream) → List Stand → List Visits → List (List Stream) → List Stand → Type 0
IsPut node_result visits outputs stands visits' outputs' stands' = IsEndPut node_result.number node_result.ending visits outputs stands visits' outputs' stands'

-- these are nodes that wait
abbrev pub AreWaiting : List Stand → List NodeResult → Type 0
AreWaiting stands results = AllByRecursion (λ node_result. stands_at is_waiting (slice_get stands node_result.number) ≡ true) results

-- the streams of all nodes are early
abbrev pub AreEarly : List (List Stream) → Type 0
AreEarly outputs = (u out : ℕ) (streams : List Stream) (stream : Stream) → slice_get outputs u ≡ Some streams → slice_get streams out ≡ Some stream → IsEarlyStream stream

-- what is done so far is what the run has
pub record IsReached (plan : Plan) (rows : Rows) (visits : List Visits) (outputs : List (List Stream)) (stands : List Stand) : Type 0 where
  pub came : length visits ≡ length plan.net.nodes
  pub left : length outputs ≡ length plan.net.nodes
  pub stand : length stands ≡ length plan.net.nodes
  pub told : (v : ℕ) (node : Node) (at : Stand) → slice_get plan.net.nodes v ≡ Some node → slice_get stands v ≡ Some at → Tells plan rows visits outputs v node at
  pub early : AreEarly outputs
