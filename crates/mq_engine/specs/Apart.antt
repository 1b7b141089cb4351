-- Forks and joins, which are worked out apart from the stations: what is gathered, and what is made of it.
use Rattle.std.specs.Prelude.{◌≡◌, ◌<◌, ◌≤◌, ℕ, Contains, false, List, length, None, Some, slice_get, take}
use Rattle.mq_core.specs.Alone.{came}
use Rattle.mq_core.specs.Came.{Came}
use Rattle.mq_core.specs.Laws.{in_order_of}
use Rattle.mq_core.specs.SequenceLaws.{sends_once}
use Rattle.mq_core.specs.Results.{first_of}
use Rattle.mq_core.specs.Sequences.{sequence_late_from, sequence_stream, sequence_visits}
use Rattle.mq_core.specs.Sound.{outputs_in}
use Rattle.mq_core.specs.StandardTable.{run_of}
use Rattle.mq_core.specs.Theorems.{IsReadFor}
use Rattle.mq_core.specs.declared.model.Input.{Input}
use Rattle.mq_core.specs.declared.model.Kind.{Kind}
use Rattle.mq_core.specs.declared.model.Node.{Node}
use Rattle.mq_core.specs.declared.model.Plan.{Plan}
use Rattle.mq_core.specs.declared.model.Rows.{Rows}
use Rattle.mq_core.specs.declared.model.Stream.{Stream}
use Rattle.mq_core.specs.declared.model.Visits.{Visits}
use Rattle.mq_join.specs.Gathers.{arrivals_of}
use Rattle.mq_join.specs.declared.gathered.Gathered.{Gathered}
use Rattle.mq_arrivals.specs.declared.nodes.Arriving.{Arriving}
use Rattle.mq_stations.specs.Late.{late_told}
use Rattle.mq_exits.specs.declared.working.Ending.{Ending}
use Rattle.mq_exits.specs.declared.working.Ending.TheVariants.{OnTime, TooMany, TooLate}
use Rattle.mq_engine.specs.Progress.{AreEarly, HasAll, read_by}

-- a fork or a join can be worked out: all has come to it, and that is no more than a node may have
pub record CanGather (plan : Plan) (rows : Rows) (outputs : List (List Stream)) (v : ℕ) : Type 0 where
  pub all : HasAll plan rows outputs v
  pub few : length ((run_of plan rows).stations v).visits ≤ 1048576
  pub apart : (node : Node) → slice_get plan.net.nodes v ≡ Some node → sends_once node.kind ≡ false

-- all of these nodes can
pub record IsGathering (s : Arriving) : Type 0 where
  pub read : IsReadFor s.plan.now.net s.rows.now
  pub early : AreEarly s.outputs.now
  pub can : (v : ℕ) → Contains s.ready.now v → CanGather s.plan.now s.rows.now s.outputs.now v

-- what came by the first ports is gathered
pub record AreGathered (outputs : List (List Stream)) (inputs : List Input) (first : ℕ) (gathered : Gathered) : Type 0 where
  pub ports : gathered.ports ≡ first
  pub many : length gathered.port ≡ length (read_by outputs 0 (take first inputs))
  pub arrivals : arrivals_of gathered ≡ in_order_of (λ (p : ℕ × ℕ × ℕ). p.0) (read_by outputs 0 (take first inputs))

-- all that comes to a node in the run is gathered
abbrev pub IsGatheredAt : Plan → Rows → ℕ → Gathered → Type 0
IsGatheredAt plan rows v gathered =
    (node : Node) → slice_get plan.net.nodes v ≡ Some node → (gathered.ports ≡ length node.inputs) × (arrivals_of gathered ≡ came ((run_of plan rows).stations v).visits)

-- the sequences of a node of this kind to which this came
pub record AreSequences (rows : Rows) (kind : Kind) (came : Came) (seen : Visits) (streams : List Stream) : Type 0 where
  pub visits : seen ≡ sequence_visits rows kind came
  pub count : length streams ≡ outputs_in kind
  pub each : (out : ℕ) → out < outputs_in kind → slice_get streams out ≡ Some (sequence_stream rows kind came out)

-- how a fork or a join ends of whose arrivals this was made: with it, where no visit is late, or with the first late visit
abbrev pub IsEndingOf : ℕ → ℕ → Visits → List Stream → Ending → Type 0
IsEndingOf bound v visits streams (OnTime came left) = (came ≡ visits) × (left ≡ streams) × (first_of (sequence_late_from bound v 0 visits.fate) ≡ None)
IsEndingOf bound v visits streams (TooMany fault) = ⊥
IsEndingOf bound v visits streams (TooLate fault) = first_of (sequence_late_from bound v 0 visits.fate) ≡ Some (late_told fault)
