-- What a node gives that was worked out, and that it is what the run has.
use Rattle.std.specs.Prelude.{◌≡◌, ℕ, Contains, List, Some, None, slice_get}
use Rattle.mq_core.specs.Came.{came_in}
use Rattle.mq_core.specs.Results.{first_of, visits_of}
use Rattle.mq_core.specs.Sequences.{sequence_fates, sequence_late_from, sequence_refusal, sequence_visits, streams_below}
use Rattle.mq_core.specs.Sound.{outputs_in}
use Rattle.mq_core.specs.StandardTable.{run_of}
use Rattle.mq_core.specs.declared.model.Kind.{Kind}
use Rattle.mq_core.specs.declared.model.Network.{Network}
use Rattle.mq_core.specs.declared.model.Node.{Node}
use Rattle.mq_core.specs.declared.model.Plan.{Plan}
use Rattle.mq_core.specs.declared.model.Rows.{Rows}
use Rattle.mq_core.specs.declared.model.Stream.{Stream}
use Rattle.mq_core.specs.declared.model.Visits.{Visits}
use Rattle.mq_stations.specs.Late.{late_told}
use Rattle.mq_stations.specs.Leaving.{AreStreams, IsEarlyStream}
use Rattle.mq_exits.specs.Refusals.{over_told, past_told}
use Rattle.mq_exits.specs.declared.working.Ending.{Ending}
use Rattle.mq_exits.specs.declared.working.Ending.TheVariants.{OnTime, TooMany, TooLate}
use Rattle.mq_exits.specs.declared.working.NodeResult.{NodeResult}

-- what is worked out of a node: the sequences of its arrivals
pub record IsResult (rows : Rows) (kind : Kind) (arrivals : Stream) (visits : Visits) (streams : List Stream) : Type 0 where
  pub sequences : visits ≡ sequence_visits rows kind (came_in arrivals)
  pub outflow : AreStreams rows kind arrivals streams

-- how a station ends that was worked out: with the sequences of its arrivals, none of them late, or with the first late visit
abbrev pub IsEnding : Network → Rows → ℕ → Kind → Stream → Ending → Type 0
IsEnding net rows v kind arrivals (OnTime visits streams) =
    IsResult rows kind arrivals visits streams × (first_of (sequence_late_from net.bound v 0 (sequence_fates rows kind (came_in arrivals))) ≡ None)
IsEnding net rows v kind arrivals (TooMany fault) = ⊥
IsEnding net rows v kind arrivals (TooLate fault) =
    first_of (sequence_late_from net.bound v 0 (sequence_fates rows kind (came_in arrivals))) ≡ Some (late_told fault)

-- what is known of a node, as the run has it
abbrev pub IsKnown : Plan → Rows → ℕ → Node → Ending → Type 0
IsKnown plan rows v node (OnTime visits streams) =
    (visits ≡ visits_of node.kind ((run_of plan rows).stations v)) × (streams ≡ streams_below (run_of plan rows) v (outputs_in node.kind))
    × ((out : ℕ) (stream : Stream) → slice_get streams out ≡ Some stream → IsEarlyStream stream)
    × (sequence_refusal plan.net.bound v (visits_of node.kind ((run_of plan rows).stations v)) ≡ None)
IsKnown plan rows v node (TooMany fault) =
    sequence_refusal plan.net.bound v (visits_of node.kind ((run_of plan rows).stations v)) ≡ Some (over_told fault)
IsKnown plan rows v node (TooLate fault) =
    sequence_refusal plan.net.bound v (visits_of node.kind ((run_of plan rows).stations v)) ≡ Some (past_told fault)

-- what was worked out of a node is what the run has
abbrev pub IsWorkedOut : Plan → Rows → NodeResult → Type 0
IsWorkedOut plan rows node_result = (node : Node) × (slice_get plan.net.nodes node_result.number ≡ Some node) × IsKnown plan rows node_result.number node node_result.ending

-- what one of these nodes gives
abbrev pub IsResultOf : Plan → Rows → List ℕ → NodeResult → Type 0
IsResultOf plan rows ready node_result = Contains ready node_result.number × IsWorkedOut plan rows node_result
