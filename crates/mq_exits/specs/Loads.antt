-- What comes to a node in a run.
use Rattle.std.specs.Prelude.{◌≡◌, ◌≤◌, ℕ, List, Contains, Some, slice_get, true}
use Rattle.mq_core.specs.SequenceLaws.{arrives_of, jobs_of, sends_once}
use Rattle.mq_core.specs.StandardTable.{run_of}
use Rattle.mq_core.specs.Theorems.{IsReadFor}
use Rattle.mq_core.specs.declared.model.Kind.{Kind}
use Rattle.mq_core.specs.declared.model.Node.{Node}
use Rattle.mq_core.specs.declared.model.Plan.{Plan}
use Rattle.mq_core.specs.declared.model.Rows.{Rows}
use Rattle.mq_core.specs.declared.model.Stream.{Stream}
use Rattle.mq_stations.specs.Leaving.{IsLoad}
use Rattle.mq_merge.specs.Borrowed.{stream_in}
use Rattle.mq_kinds.specs.declared.pieces.Load.{Load as StationLoad}
use Rattle.mq_exits.specs.declared.load.Held.{Held}
use Rattle.mq_exits.specs.declared.load.Load.{Load}

-- the arrivals are those of the run
pub record IsArrived (plan : Plan) (rows : Rows) (v : ℕ) (arrivals : Stream) : Type 0 where
  pub job : arrivals.job ≡ jobs_of ((run_of plan rows).stations v).visits
  pub time : arrivals.time ≡ arrives_of ((run_of plan rows).stations v).visits

-- what comes to a node that lets each job out once, alone, is what comes in the run, and it can be worked on
pub record IsLoaded (plan : Plan) (rows : Rows) (v : ℕ) (arrivals : Stream) : Type 0 where
  pub node : Node
  pub there : slice_get plan.net.nodes v ≡ Some node
  pub once : sends_once node.kind ≡ true
  pub came : IsArrived plan rows v arrivals
  pub load : IsLoad rows node.kind arrivals

-- what a station needs: rows, its kind, and what comes to it
abbrev pub Needs : Type 0
Needs = Rows × Kind × Stream

abbrev pub needs_of : StationLoad → Needs
needs_of load = (load.rows.now, load.kind.now, load.arrivals.now)

-- what a station of the plan needs to be computed from these arrivals
pub record IsStationOf (plan : Plan) (rows : Rows) (v : ℕ) (arrivals : Stream) (load : StationLoad) : Type 0 where
  pub node : Node
  pub there : slice_get plan.net.nodes v ≡ Some node
  pub same : needs_of load ≡ (rows, node.kind, arrivals)

-- what a load tells: a plan, rows, a node, and what comes to it
abbrev pub Told : Type 0
Told = Plan × Rows × ℕ × Stream

abbrev pub told_of : Load → Told
told_of load = (load.plan.now, load.rows.now, load.number, load.arrivals.now)

abbrev pub told_by : Held → Told
told_by held = (held.plan.now, held.rows.now, held.number, stream_in held.arrivals)

-- a load that can be worked on
abbrev pub IsReadyLoad : Held → Type 0
IsReadyLoad held = IsReadFor held.plan.now.net held.rows.now × IsLoaded held.plan.now held.rows.now held.number (stream_in held.arrivals) × (1 ≤ held.block)

-- the load of one of these nodes
abbrev pub IsLoadOf : Plan → Rows → List ℕ → Held → Type 0
IsLoadOf plan rows ready held = (held.plan.now ≡ plan) × (held.rows.now ≡ rows) × Contains ready held.number
