-- The sequences of a run meet what the functions of this crate require.
use Rattle.std.specs.Prelude.{◌≡◌, ◌≤◌, ℕ, None, Some, length, slice_get}
use Rattle.mq_core.specs.Results.{refusal_of, stream_from, visits_of}
use Rattle.mq_core.specs.StandardTable.{run_of}
use Rattle.mq_core.specs.Theorems.{IsReadFor}
use Rattle.mq_core.specs.declared.model.Node.{Node}
use Rattle.mq_core.specs.declared.model.Plan.{Plan}
use Rattle.mq_core.specs.declared.model.Rows.{Rows}
use Rattle.mq_stats.specs.Numbers.{AreVisits, AreLeaving}

-- no node of a run has more than 1,048,576 visits
abbrev pub HasFewVisits : Plan → Rows → Type 0
HasFewVisits plan rows =
    (v : ℕ) (node : Node) → slice_get plan.net.nodes v ≡ Some node → length ((run_of plan rows).stations v).visits ≤ 1048576

-- every run has few visits if it isn't refused, or if its model has version 1
pub record RunsHaveFewVisits : Type 0 where
  pub fine : (plan : Plan) (rows : Rows) → refusal_of plan rows ≡ None → HasFewVisits plan rows
  pub first : (plan : Plan) (rows : Rows) → IsReadFor plan.net rows → plan.net.version ≡ 1 → HasFewVisits plan rows

-- the visits of each node of a run, if they are at most 1,048,576
abbrev pub RunsGiveVisits : Type 0
RunsGiveVisits =
    (plan : Plan) (rows : Rows) → IsReadFor plan.net rows → (v : ℕ) (node : Node) → slice_get plan.net.nodes v ≡ Some node →
    length ((run_of plan rows).stations v).visits ≤ 1048576 →
    AreVisits rows node.kind (visits_of node.kind ((run_of plan rows).stations v))

-- what leaves each node of a run by each output, if the node has at most 1,048,576
-- visits
abbrev pub RunsGiveStreams : Type 0
RunsGiveStreams =
    (plan : Plan) (rows : Rows) → IsReadFor plan.net rows → (v : ℕ) (node : Node) → slice_get plan.net.nodes v ≡ Some node →
    length ((run_of plan rows).stations v).visits ≤ 1048576 →
    (out : ℕ) → AreLeaving rows (stream_from ((run_of plan rows).stations v) out)
