-- A run in sequences: what the code keeps of it, one item per visit, by position.
use Rattle.mq_core.specs.Came.{Came}
use Rattle.std.specs.Prelude.{All, List, Option, Some, [], count_by, fold, if◌then◌else◌, length, map, max, slice_index, suc, sum, zero, ℕ, ◌++◌, ◌-◌, ◌==◌, ◌^◌, ◌∷◌, ◌≡◌, ◌≤◌}
use Rattle.mq_core.specs.Fates.{service_time}
use Rattle.mq_core.specs.KindTable.{behaviour_of}
use Rattle.mq_core.specs.Laws.{Rises}
use Rattle.mq_core.specs.Local.{Local}
use Rattle.mq_core.specs.Machine.{State}
use Rattle.mq_core.specs.Results.{Late, Refusal, Totals, bare_time, is_departed, is_held, first_of, is_lost, late_fate, peak_of, refusal_by, stream_from, visits_of}
use Rattle.mq_core.specs.Sound.{outputs_in}
use Rattle.mq_core.specs.StandardTable.{run_of}
use Rattle.mq_core.specs.Streams.{stream_by}
use Rattle.mq_core.specs.declared.model.Fate.{Fate}
use Rattle.mq_core.specs.declared.model.Fate.TheVariants.{Departs, Held, Lost}
use Rattle.mq_core.specs.declared.model.Kind.{Kind}
use Rattle.mq_core.specs.declared.model.Node.{Node}
use Rattle.mq_core.specs.declared.model.Plan.{Plan}
use Rattle.mq_core.specs.declared.model.Rows.{Rows}
use Rattle.mq_core.specs.declared.model.Run.{Run}
use Rattle.mq_core.specs.declared.model.Stream.{Stream}
use Rattle.mq_core.specs.declared.model.Visits.{Visits}

-- Streams. One job and one time per item, and the times never fall.
pub record IsStream (stream : Stream) : Type 0 where
  pub even : length stream.job ≡ length stream.time
  pub rising : Rises (λ a b. a ≤ b) stream.time

-- the rows of a source, in file order, as pairs of time and job; the first row is this job
abbrev pub rows_at : ℕ → ℕ → List ℕ → List ℕ → List (ℕ × ℕ)
rows_at node job [] times = []
rows_at node job (source ∷ sources) [] = []
rows_at node job (source ∷ sources) (time ∷ times) =
    if source == node then (time, job) ∷ rows_at node (suc job) sources times else rows_at node (suc job) sources times

-- The load that a station can take: arrivals and one demand for each, in their limits.
pub record IsSoundLoad (times demands : List ℕ) : Type 0 where
  pub few : length times ≤ 1048576
  pub each : length demands ≡ length times
  pub early : All (λ time. time ≤ 2 ^ 60) times
  pub small : All (λ demand. demand ≤ 2 ^ 36) demands

-- the fates of these arrivals at a node of this kind
abbrev pub sequence_fates : Rows → Kind → Came → List Fate
sequence_fates rows kind came = (behaviour_of kind).fates rows came

-- the visits of these arrivals to a node of this kind
abbrev pub sequence_visits : Rows → Kind → Came → Visits
sequence_visits rows kind came =
    record { job = came.job; arrive = came.arrive; found = (behaviour_of kind).founds rows came; fate = sequence_fates rows kind came }

-- the output by which each of these arrivals leaves a node of this kind; none at a fork or a join
abbrev pub sequence_outs : Rows → Kind → Came → List ℕ
sequence_outs rows kind came = (behaviour_of kind).outs rows came

-- the time of a departure, or 0 for a visit that is lost or held
abbrev pub time_of_fate : Fate → ℕ
time_of_fate (Departs time) = time
time_of_fate Lost = 0
time_of_fate Held = 0

-- The jobs and times of one output, given by position, in the order in which they leave by it: by time and then position at a delay or a
-- trunk group, otherwise by position. (A loss station lets jobs out by time over both outputs, and so by position on each.)
abbrev pub stream_in_order : Kind → Stream → Stream
stream_in_order kind stream = stream_by (behaviour_of kind).order stream

-- what leaves a node of this kind by an output, given its arrivals
abbrev pub sequence_stream : Rows → Kind → Came → ℕ → Stream
sequence_stream rows kind came out = (behaviour_of kind).stream rows came out

-- Totals. How long a visit waited; 0 if it is lost or held.
abbrev pub sequence_wait : Rows → Kind → ℕ → ℕ → Fate → ℕ
sequence_wait rows kind job arrive (Departs time) = time - arrive - bare_time rows kind job
sequence_wait rows kind job arrive Lost = 0
sequence_wait rows kind job arrive Held = 0

-- the wait of each visit
abbrev pub sequence_waits : Rows → Kind → List ℕ → List ℕ → List Fate → List ℕ
sequence_waits rows kind [] arrives fates = []
sequence_waits rows kind (job ∷ jobs) [] fates = []
sequence_waits rows kind (job ∷ jobs) (arrive ∷ arrives) [] = []
sequence_waits rows kind (job ∷ jobs) (arrive ∷ arrives) (fate ∷ fates) = sequence_wait rows kind job arrive fate ∷ sequence_waits rows kind jobs arrives fates

-- how long a visit stayed until the end of the run, at time `span`; 0 if it is lost
abbrev pub sequence_sojourn : ℕ → ℕ → Fate → ℕ
sequence_sojourn span arrive (Departs time) = time - arrive
sequence_sojourn span arrive Lost = 0
sequence_sojourn span arrive Held = span - arrive

-- the sojourn of each visit
abbrev pub sequence_sojourns : ℕ → List ℕ → List Fate → List ℕ
sequence_sojourns span [] fates = []
sequence_sojourns span (arrive ∷ arrives) [] = []
sequence_sojourns span (arrive ∷ arrives) (fate ∷ fates) = sequence_sojourn span arrive fate ∷ sequence_sojourns span arrives fates

-- how long a visit was served; 0 if it is lost
abbrev pub sequence_service : Rows → Kind → ℕ → Fate → ℕ
sequence_service rows kind job (Departs time) = service_time rows kind job
sequence_service rows kind job Lost = 0
sequence_service rows kind job Held = service_time rows kind job

-- the service of each visit
abbrev pub sequence_services : Rows → Kind → List ℕ → List Fate → List ℕ
sequence_services rows kind [] fates = []
sequence_services rows kind (job ∷ jobs) [] = []
sequence_services rows kind (job ∷ jobs) (fate ∷ fates) = sequence_service rows kind job fate ∷ sequence_services rows kind jobs fates

-- the totals of a node, from its visits and the span of the run
abbrev pub sequence_totals : Rows → Kind → Visits → ℕ → Totals
sequence_totals rows kind visits span =
    let waits = sequence_waits rows kind visits.job visits.arrive visits.fate in
    record {
      came = length visits.job;
      left = count_by is_departed visits.fate;
      lost = count_by is_lost visits.fate;
      held = count_by is_held visits.fate;
      wait = sum waits;
      longest = fold max 0 waits;
      busy = sum (sequence_services rows kind visits.job visits.fate);
      area = sum (sequence_sojourns span visits.arrive visits.fate);
      peak = peak_of kind visits.found visits.fate;
    }

-- how long each of these jobs was in the network when it left by an output
abbrev pub stream_sojourns : Rows → List ℕ → List ℕ → List ℕ
stream_sojourns rows [] times = []
stream_sojourns rows (job ∷ jobs) [] = []
stream_sojourns rows (job ∷ jobs) (time ∷ times) = (time - slice_index rows.time job) ∷ stream_sojourns rows jobs times

-- the number of jobs that leave by an output, and the sum of their times since their rows
abbrev pub sequence_exit : Rows → Stream → ℕ × ℕ
sequence_exit rows stream = (length stream.job, sum (stream_sojourns rows stream.job stream.time))

-- the greatest time of these visits, or 0
abbrev pub greatest_time : Visits → ℕ
greatest_time visits = max (fold max 0 visits.arrive) (fold max 0 (map time_of_fate visits.fate))

-- the greatest time of a visit to any node, or 0
abbrev pub sequence_span : List Visits → ℕ
sequence_span visits = fold max 0 (map greatest_time visits)

-- Late visits. Those of these fates, the first of them at this position, that are departures after the bound.
abbrev pub sequence_late_from : ℕ → ℕ → ℕ → List Fate → List Late
sequence_late_from bound node position [] = []
sequence_late_from bound node position (fate ∷ fates) =
    late_fate bound node position (Some fate) ++ sequence_late_from bound node (suc position) fates

-- the refusal of a node with these visits
abbrev pub sequence_refusal : ℕ → ℕ → Visits → Option Refusal
sequence_refusal bound node visits = refusal_by node (length visits.job) (first_of (sequence_late_from bound node 0 visits.fate))

-- The sequences of a state. The visits, node by node from this one on.
abbrev pub visits_by_node : State Local → ℕ → List Node → List Visits
visits_by_node end node [] = []
visits_by_node end node (n ∷ nodes) = visits_of n.kind (end.stations node) ∷ visits_by_node end (suc node) nodes

-- the streams of the first `outs` outputs of a node
abbrev pub streams_below : State Local → ℕ → ℕ → List Stream
streams_below end node zero = []
streams_below end node (suc outs) = streams_below end node outs ++ stream_from (end.stations node) outs ∷ []

-- the streams of each node's outputs, node by node from this one on
abbrev pub streams_by_node : State Local → ℕ → List Node → List (List Stream)
streams_by_node end node [] = []
streams_by_node end node (n ∷ nodes) = streams_below end node (outputs_in n.kind) ∷ streams_by_node end (suc node) nodes

-- what a run gives is the run of the event list, in sequences
pub record IsRunOf (plan : Plan) (rows : Rows) (run : Run) : Type 0 where
  pub visits : run.visits ≡ visits_by_node (run_of plan rows) 0 plan.net.nodes
  pub outputs : run.outputs ≡ streams_by_node (run_of plan rows) 0 plan.net.nodes
