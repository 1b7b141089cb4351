-- A node that runs alone, over given arrivals: what it lets out, and how its visits fare.
use Rattle.std.specs.Prelude.{List, Some, [], filter, length, map, max, slice_get, true, ℕ, ◌<◌, ◌≡◌}
use Rattle.std.specs.List.{AllByRecursion}
use Rattle.mq_core.specs.Came.{Came}
use Rattle.mq_core.specs.Event.{Event, time_of, job_of}
use Rattle.mq_core.specs.Local.{Local}
use Rattle.mq_core.specs.Machine.{Emission, Station, Visit, after, opened}
use Rattle.mq_core.specs.Laws.{NotBefore, Rises, alone, is_arrival_at, port_of}
use Rattle.mq_core.specs.Results.{fates_from, stream_from}
use Rattle.mq_core.specs.Sequences.{sequence_fates, sequence_stream}
use Rattle.mq_core.specs.Served.{flow_of, in_emission_order}
use Rattle.mq_core.specs.StandardTable.{standard}
use Rattle.mq_core.specs.Wiring.{inputs_of}
use Rattle.mq_core.specs.declared.model.Kind.{Kind}
use Rattle.mq_core.specs.declared.model.Node.{Node}
use Rattle.mq_core.specs.declared.model.Plan.{Plan}
use Rattle.mq_core.specs.declared.model.Rows.{Rows}

-- the time, the port and the job of each visit
abbrev pub came : List Visit → List (ℕ × ℕ × ℕ)
came visits = map {B = ℕ × ℕ × ℕ} (λ (x : Visit). (x.arrive, x.port, x.job)) visits

-- the time, the port and the job of each arrival at a node
abbrev pub come_at : ℕ → List Event → List (ℕ × ℕ × ℕ)
come_at v events = map {B = ℕ × ℕ × ℕ} (λ e. (time_of e, port_of e, job_of e)) (filter (is_arrival_at v) events)

-- these are arrivals at node v, ordered by time, and at one time by port
pub record IsLoad (ports v : ℕ) (arrivals : List Event) : Type 0 where
  pub here : AllByRecursion (λ e. is_arrival_at v e ≡ true) arrivals
  pub ordered : Rises NotBefore arrivals
  -- each by a port that the node has; a node without ports takes them as if by the first
  pub fit : AllByRecursion (λ e. port_of e < max 1 ports) arrivals

-- a run of a node alone gave these visits for its arrivals, and let out what was expected
pub record LetsOut (visits : List Visit) (emitted : List Emission) (arrivals : List Event) (v : ℕ) (expected : List Emission) : Type 0 where
  pub visited : came visits ≡ come_at v arrivals
  pub left : emitted ≡ expected

-- a node that runs alone until nothing is pending lets out the recurrence of its kind over its visits, in emission order
abbrev pub NodesFlowAlone : Type 0
NodesFlowAlone =
    (plan : Plan) (rows : Rows) (v : ℕ) (node : Node) → slice_get plan.net.nodes v ≡ Some node →
    (arrivals : List Event) → IsLoad (length (inputs_of plan.net.nodes v)) v arrivals → (count : ℕ) →
    let end = after count (alone (standard plan rows)) (opened (alone (standard plan rows)) arrivals) in
    end.pending ≡ [] →
    LetsOut (end.stations v).visits (end.stations v).emitted arrivals v (in_emission_order node.kind (flow_of rows (length node.inputs) node.kind (end.stations v).visits))

-- these arrivals, as sequences
abbrev pub load_of : ℕ → List Event → Came
load_of ports arrivals = record { ports = ports; port = map port_of arrivals; job = map job_of arrivals; arrive = map time_of arrivals }

-- how the visits fared, and what left by each output, is the recurrence of the kind over these arrivals
pub record FaredAs (rows : Rows) (ports : ℕ) (kind : Kind) (s : Station Local) (arrivals : List Event) : Type 0 where
  pub fates : fates_from kind s 0 s.visits ≡ sequence_fates rows kind (load_of ports arrivals)
  pub streams : (out : ℕ) → stream_from s out ≡ sequence_stream rows kind (load_of ports arrivals) out

-- the visits to a node that runs alone until nothing is pending fare as the recurrence of its kind says for its arrivals: each
-- departs at its time, is lost, or is held
abbrev pub NodesFareAlone : Type 0
NodesFareAlone =
    (plan : Plan) (rows : Rows) (v : ℕ) (node : Node) → slice_get plan.net.nodes v ≡ Some node →
    (arrivals : List Event) → IsLoad (length (inputs_of plan.net.nodes v)) v arrivals → (count : ℕ) →
    let end = after count (alone (standard plan rows)) (opened (alone (standard plan rows)) arrivals) in
    end.pending ≡ [] → FaredAs rows (length node.inputs) node.kind (end.stations v) arrivals
