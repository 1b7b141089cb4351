-- The laws that carry a run over to sequences: what a node lets out, its visits, streams and arrivals.
use Rattle.std.specs.Prelude.{Bool, IsTrue, ◌≡◌, ◌<◌, ◌≤◌, ⊤, ℕ, ◌+◌, false, List, ◌++◌, length, map, slice_get, Some, true, suc, [], ◌∷◌}
use Rattle.std.specs.List.{AllByRecursion, zip, flat_map}
use Rattle.mq_core.specs.Alone.{came}
use Rattle.mq_core.specs.Came.{Came, came_by, came_of}
use Rattle.mq_core.specs.Sequences.{IsStream, sequence_fates, sequence_stream, sequence_visits, rows_at, stream_in_order, sequence_outs}
use Rattle.mq_core.specs.Fates.{keeps_visits}
use Rattle.mq_core.specs.KindTable.{behaviour_of}
use Rattle.mq_core.specs.Laws.{Rises, in_order_of}
use Rattle.mq_core.specs.Local.{Local}
use Rattle.mq_core.specs.Machine.{Visit, Station, State}
use Rattle.mq_core.specs.OnceOut.{founds_of, once_out}
use Rattle.mq_core.specs.Results.{bare_time, visits_of, stream_from}
use Rattle.mq_core.specs.Served.{flow_of, in_emission_order}
use Rattle.mq_core.specs.Sound.{is_sound}
use Rattle.mq_core.specs.StandardTable.{run_of}
use Rattle.mq_core.specs.Streams.{by_first, by_port, pairs_of}
use Rattle.mq_core.specs.Theorems.{IsReadFor}
use Rattle.mq_core.specs.Wiring.{is_source_kind}
use Rattle.mq_core.specs.declared.model.Fate.{Fate}
use Rattle.mq_core.specs.declared.model.Fate.TheVariants.{Departs, Held, Lost}
use Rattle.mq_core.specs.declared.model.Input.{Input}
use Rattle.mq_core.specs.declared.model.Kind.{Kind}
use Rattle.mq_core.specs.declared.model.Network.{Network}
use Rattle.mq_core.specs.declared.model.Node.{Node}
use Rattle.mq_core.specs.declared.model.Plan.{Plan}
use Rattle.mq_core.specs.declared.model.Rows.{Rows}
use Rattle.mq_core.specs.declared.model.Stream.{Stream}
use Rattle.mq_core.specs.declared.model.Visits.{Visits}

-- what a node lets out is the recurrence of its kind over its visits, in emission order
abbrev pub NodesFlow : Type 0
NodesFlow =
    (plan : Plan) (rows : Rows) → IsReadFor plan.net rows → (v : ℕ) (node : Node) → slice_get plan.net.nodes v ≡ Some node →
    let s = (run_of plan rows).stations v in
    s.emitted ≡ in_emission_order node.kind (flow_of rows (length node.inputs) node.kind s.visits)

-- the jobs of these visits, and the times at which they came
abbrev pub jobs_of : List Visit → List ℕ
jobs_of visits = map (λ (x : Visit). x.job) visits

abbrev pub arrives_of : List Visit → List ℕ
arrives_of visits = map (λ (x : Visit). x.arrive) visits

-- the visits and the streams of a node are the sequences that follow from its arrivals
pub record IsInSequences (rows : Rows) (ports : ℕ) (kind : Kind) (s : Station Local) : Type 0 where
  pub visits : visits_of kind s ≡ sequence_visits rows kind (came_of ports s.visits)
  pub stream : (out : ℕ) → stream_from s out ≡ sequence_stream rows kind (came_of ports s.visits) out

abbrev pub NodesAreSequences : Type 0
NodesAreSequences =
    (plan : Plan) (rows : Rows) → IsReadFor plan.net rows → (v : ℕ) (node : Node) → slice_get plan.net.nodes v ≡ Some node →
    IsInSequences rows (length node.inputs) node.kind ((run_of plan rows).stations v)

-- each visit to a node of this kind leaves once, alone
abbrev pub sends_once : Kind → Bool
sends_once kind = (behaviour_of kind).once

-- the sequences of a node follow from the fates of its visits: what each visit found, and, with the output of each, what leaves by
-- an output
pub record GoesByFates (rows : Rows) (kind : Kind) (came : Came) : Type 0 where
  pub founds : (sequence_visits rows kind came).found ≡ founds_of came.arrive (sequence_fates rows kind came)
  pub stream : (out : ℕ) → sequence_stream rows kind came out ≡ once_out (behaviour_of kind).order came (sequence_fates rows kind came) (sequence_outs rows kind came) out

abbrev pub SequencesGoByFates : Type 0
SequencesGoByFates = (rows : Rows) (kind : Kind) (came : Came) → sends_once kind ≡ true → GoesByFates rows kind came

-- the ports by which jobs came don't change the sequences of a node
pub record IsBlind (rows : Rows) (kind : Kind) (came : Came) : Type 0 where
  pub visits : sequence_visits rows kind came ≡ sequence_visits rows kind (came_by came.job came.arrive)
  pub stream : (out : ℕ) → sequence_stream rows kind came out ≡ sequence_stream rows kind (came_by came.job came.arrive) out

abbrev pub SequencesAreBlind : Type 0
SequencesAreBlind = (rows : Rows) (kind : Kind) (came : Came) → keeps_visits kind ≡ false → IsBlind rows kind came

-- what comes by these ports, the first of which has this number, port by port: time, port and job of each item
abbrev pub read_from : State Local → ℕ → List Input → List (ℕ × ℕ × ℕ)
read_from end port [] = []
read_from end port (i ∷ is) = by_port port (stream_from (end.stations i.node) i.out) ++ read_from end (suc port) is

-- The arrivals at a node, ordered by time: the rows of a source in file order, or what the ports of another node read, port by
-- port, both without the port of each item and with it.
pub record IsMerged (rows : Rows) (v : ℕ) (node : Node) (end : State Local) : Type 0 where
  pub source : is_source_kind node.kind ≡ true → zip (arrives_of (end.stations v).visits) (jobs_of (end.stations v).visits) ≡ by_first (rows_at v 0 rows.source rows.time)
  pub other : is_source_kind node.kind ≡ false → zip (arrives_of (end.stations v).visits) (jobs_of (end.stations v).visits) ≡ by_first (flat_map (λ (i : Input). pairs_of (stream_from (end.stations i.node) i.out)) node.inputs)
  pub ports : is_source_kind node.kind ≡ false → came (end.stations v).visits ≡ in_order_of (λ (p : ℕ × ℕ × ℕ). p.0) (read_from end 0 node.inputs)

abbrev pub ArrivalsAreStreams : Type 0
ArrivalsAreStreams =
    (plan : Plan) (rows : Rows) → IsReadFor plan.net rows → (v : ℕ) (node : Node) → slice_get plan.net.nodes v ≡ Some node →
    IsMerged rows v node (run_of plan rows)

-- putting a stream in emission order keeps the number of its items, and every bound on its jobs and its times
pub record KeepsItems (kind : Kind) (stream : Stream) : Type 0 where
  pub jobs : (limit : ℕ) → AllByRecursion (λ job. job < limit) stream.job → AllByRecursion (λ job. job < limit) (stream_in_order kind stream).job
  pub times : (limit : ℕ) → AllByRecursion (λ time. time ≤ limit) stream.time → AllByRecursion (λ time. time ≤ limit) (stream_in_order kind stream).time
  pub many : length stream.job ≡ length stream.time → length (stream_in_order kind stream).job ≡ length stream.job

abbrev pub OrdersKeepItems : Type 0
OrdersKeepItems = (kind : Kind) (stream : Stream) → KeepsItems kind stream

-- the arrivals and the streams of a node never go back in time
pub record IsInOrder (s : Station Local) : Type 0 where
  pub arrivals : Rises (λ a b. a ≤ b) (arrives_of s.visits)
  pub streams : (out : ℕ) → IsStream (stream_from s out)

abbrev pub StreamsRise : Type 0
StreamsRise = (plan : Plan) (rows : Rows) (v : ℕ) → IsInOrder ((run_of plan rows).stations v)

-- the job of each visit is the index of a row
abbrev pub JobsAreRows : Type 0
JobsAreRows =
    (plan : Plan) (rows : Rows) (v : ℕ) →
    AllByRecursion (λ job. job < length rows.time) (jobs_of ((run_of plan rows).stations v).visits)

-- a departure no earlier than this time, or lost or held
abbrev pub LeavesFrom : ℕ → Fate → Type 0
LeavesFrom arrive (Departs time) = arrive ≤ time
LeavesFrom arrive Lost = ⊤
LeavesFrom arrive Held = ⊤

-- as many fates as arrivals, and no departure before its arrival
pub record FatesInTime (arrive : List ℕ) (fate : List Fate) : Type 0 where
  pub even : length fate ≡ length arrive
  pub each : AllByRecursion (λ (p : ℕ × Fate). LeavesFrom p.0 p.1) (zip arrive fate)

-- the fates of arrivals at a node where visits don't stay for good are in time
abbrev pub FatesAreInTime : Type 0
FatesAreInTime = (rows : Rows) (kind : Kind) (came : Came) → keeps_visits kind ≡ false → length came.job ≡ length came.arrive → FatesInTime came.arrive (sequence_fates rows kind came)

-- The sequences have one item per visit. No visit departs before it came (said item by item, and by position), and none found more
-- jobs than visits came before it.
pub record IsInTime (visits : Visits) : Type 0 where
  pub jobs : length visits.job ≡ length visits.arrive
  pub founds : length visits.found ≡ length visits.arrive
  pub fates : length visits.fate ≡ length visits.arrive
  pub each : AllByRecursion (λ (p : ℕ × Fate). LeavesFrom p.0 p.1) (zip visits.arrive visits.fate)
  pub few : (position found : ℕ) → slice_get visits.found position ≡ Some found → found ≤ position
  pub at : (position arrive time : ℕ) → slice_get visits.arrive position ≡ Some arrive → slice_get visits.fate position ≡ Some (Departs time) → arrive ≤ time

abbrev pub DepartsInTime : Type 0
DepartsInTime =
    (plan : Plan) (rows : Rows) → IsReadFor plan.net rows → (v : ℕ) (node : Node) → slice_get plan.net.nodes v ≡ Some node →
    IsInTime (visits_of node.kind ((run_of plan rows).stations v))

-- each visit that departs stayed at least the bare time of its job, so no wait is cut off at 0
abbrev pub VisitsStayBareTime : Type 0
VisitsStayBareTime =
    (plan : Plan) (rows : Rows) → IsReadFor plan.net rows → (v : ℕ) (node : Node) → slice_get plan.net.nodes v ≡ Some node →
    let visits = visits_of node.kind ((run_of plan rows).stations v) in
    (position job arrive time : ℕ) → slice_get visits.job position ≡ Some job → slice_get visits.arrive position ≡ Some arrive →
    slice_get visits.fate position ≡ Some (Departs time) → arrive + bare_time rows node.kind job ≤ time

-- the most jobs that a node of this kind lets out at one event
abbrev pub copies_of : Kind → ℕ
copies_of kind = (behaviour_of kind).copies

-- no node of the network lets out more than one job at one event
abbrev pub NoNodeCopies : Network → Type 0
NoNodeCopies net = (v : ℕ) (node : Node) → slice_get net.nodes v ≡ Some node → copies_of node.kind ≤ 1

-- a sound network of version 1 has no node that lets out more
abbrev pub FirstVersionCopiesNothing : Type 0
FirstVersionCopiesNothing = (net : Network) → IsTrue (is_sound net) → net.version ≡ 1 → NoNodeCopies net

-- if no node lets out more than one job at one event, a node has no more visits than there are rows
abbrev pub VisitsAreFew : Type 0
VisitsAreFew =
    (plan : Plan) (rows : Rows) → IsReadFor plan.net rows → NoNodeCopies plan.net → (v : ℕ) →
    length ((run_of plan rows).stations v).visits ≤ length rows.time
