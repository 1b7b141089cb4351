-- The time of the last event at a node, from the last items of its lists.
use Rattle.std.specs.Prelude.{◌≡◌, ◌-◌, ℕ, List, Some, fold, length, map, max, slice_get, slice_index_or}
use Rattle.mq_core.specs.Results.{visits_of}
use Rattle.mq_core.specs.Sequences.{greatest_time, streams_below}
use Rattle.mq_core.specs.Sound.{outputs_in}
use Rattle.mq_core.specs.StandardTable.{run_of}
use Rattle.mq_core.specs.Theorems.{IsReadFor}
use Rattle.mq_core.specs.declared.model.Node.{Node}
use Rattle.mq_core.specs.declared.model.Plan.{Plan}
use Rattle.mq_core.specs.declared.model.Rows.{Rows}
use Rattle.mq_core.specs.declared.model.Stream.{Stream}
use Rattle.mq_core.specs.declared.model.Visits.{Visits}

-- the last of these times, or 0 if there are none
abbrev pub last_time : List ℕ → ℕ
last_time times = slice_index_or times (length times - 1) 0

-- the greatest of a time and the last times of these streams
abbrev pub last_left : ℕ → List Stream → ℕ
last_left time streams = fold max time (map (λ (stream : Stream). last_time stream.time) streams)

-- the greatest of the last arrival and the last times of the streams
abbrev pub last_event : Visits → List Stream → ℕ
last_event visits streams = last_left (last_time visits.arrive) streams

-- the greatest time of a visit to a node of a run is the time of its last
-- event
abbrev pub LastsAreGreatest : Type 0
LastsAreGreatest =
    (plan : Plan) (rows : Rows) → IsReadFor plan.net rows → (v : ℕ) (node : Node) → slice_get plan.net.nodes v ≡ Some node →
    let visits = visits_of node.kind ((run_of plan rows).stations v) in
    greatest_time visits ≡ last_event visits (streams_below (run_of plan rows) v (outputs_in node.kind))
