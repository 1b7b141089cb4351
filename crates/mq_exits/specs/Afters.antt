-- What becomes of the arrivals at a node: their fates, who found how many, and what leaves.
use Rattle.std.specs.Prelude.{◌≡◌, ℕ, List, Some, None, slice_get}
use Rattle.mq_core.specs.Came.{came_in}
use Rattle.mq_core.specs.OnceOut.{founds_of}
use Rattle.mq_core.specs.Results.{first_of}
use Rattle.mq_core.specs.Sequences.{sequence_fates, sequence_late_from}
use Rattle.mq_core.specs.declared.model.Fate.{Fate}
use Rattle.mq_core.specs.declared.model.Kind.{Kind}
use Rattle.mq_core.specs.declared.model.Network.{Network}
use Rattle.mq_core.specs.declared.model.Node.{Node}
use Rattle.mq_core.specs.declared.model.Plan.{Plan}
use Rattle.mq_core.specs.declared.model.Rows.{Rows}
use Rattle.mq_core.specs.declared.model.Stream.{Stream}
use Rattle.mq_stations.specs.Late.{late_told}
use Rattle.mq_stations.specs.Leaving.{AreSettled, AreStreams}
use Rattle.mq_rounds.specs.declared.settled.Settled.{Settled}
use Rattle.mq_kinds.specs.Lefts.{LeaveInTurn}
use Rattle.mq_kinds.specs.declared.pieces.Faring.{Faring}
use Rattle.mq_kinds.specs.declared.pieces.Faring.TheVariants.{Late, OnTime}
use Rattle.mq_exits.specs.declared.working.After.{After}
use Rattle.mq_exits.specs.declared.working.After.TheVariants.{Missed, Seen}

-- the fates of the arrivals at a node of this kind, none of them late, and what leaves by each output
pub record AreOnTime (net : Network) (rows : Rows) (v : ℕ) (kind : Kind) (arrivals : Stream) (fates : List Fate) (streams : List Stream) : Type 0 where
  pub fates_are : fates ≡ sequence_fates rows kind (came_in arrivals)
  pub streams_are : AreStreams rows kind arrivals streams
  pub none : first_of (sequence_late_from net.bound v 0 (sequence_fates rows kind (came_in arrivals))) ≡ None

-- what becomes of the arrivals at a node of this kind: their fates, what each found, and what leaves; or the first that is late
abbrev pub IsAfter : Network → Rows → ℕ → Kind → Stream → After → Type 0
IsAfter net rows v kind arrivals (Seen fates found streams) =
    AreOnTime net rows v kind arrivals fates streams × (found ≡ founds_of arrivals.time fates)
IsAfter net rows v kind arrivals (Missed fault) =
    first_of (sequence_late_from net.bound v 0 (sequence_fates rows kind (came_in arrivals))) ≡ Some (late_told fault)

-- the same at a node of the plan
abbrev pub IsAfterAt : Plan → Rows → ℕ → Stream → After → Type 0
IsAfterAt plan rows v arrivals after = (node : Node) → slice_get plan.net.nodes v ≡ Some node → IsAfter plan.net rows v node.kind arrivals after

-- how the arrivals at a node of this kind fared: their fates, none of them late, and what each found; or the first that is late
abbrev pub IsFaring : Network → Rows → ℕ → Kind → Stream → Faring → Type 0
IsFaring net rows v kind arrivals (OnTime fates found) =
    (fates ≡ sequence_fates rows kind (came_in arrivals)) × (first_of (sequence_late_from net.bound v 0 (sequence_fates rows kind (came_in arrivals))) ≡ None)
    × (found ≡ founds_of arrivals.time fates)
IsFaring net rows v kind arrivals (Late fault) =
    first_of (sequence_late_from net.bound v 0 (sequence_fates rows kind (came_in arrivals))) ≡ Some (late_told fault)

-- which arrivals at a station of the plan are admitted, and when those depart
abbrev pub AreSettledAt : Plan → Rows → ℕ → Stream → Settled → Type 0
AreSettledAt plan rows v arrivals settled = (node : Node) → slice_get plan.net.nodes v ≡ Some node → AreSettled rows node.kind arrivals settled

-- the jobs of a station of the plan depart at these times, by position, and leave in the order in which they came
abbrev pub IsServed : Plan → Rows → ℕ → Stream → List ℕ → Type 0
IsServed plan rows v arrivals departs = (node : Node) → slice_get plan.net.nodes v ≡ Some node → LeaveInTurn rows node.kind arrivals departs
