-- The numbers computed from sequences are the run's own tallies.
use Rattle.std.specs.Prelude.{◌≡◌, ◌<◌, ℕ, length, Some, None, slice_get}
use Rattle.mq_core.specs.Sequences.{sequence_totals, sequence_exit, sequence_span, sequence_refusal, visits_by_node}
use Rattle.mq_core.specs.Local.{Local}
use Rattle.mq_core.specs.Machine.{Station}
use Rattle.mq_core.specs.Results.{Refusal, totals_of, exit_of, visits_of, stream_from, refusal_of}
use Rattle.mq_core.specs.StandardTable.{run_of}
use Rattle.mq_core.specs.Theorems.{IsReadFor}
use Rattle.mq_core.specs.declared.model.Node.{Node}
use Rattle.mq_core.specs.declared.model.Plan.{Plan}
use Rattle.mq_core.specs.declared.model.Rows.{Rows}

-- the totals of a node are those of its sequences
abbrev pub TotalsAreSequences : Type 0
TotalsAreSequences =
    (plan : Plan) (rows : Rows) → IsReadFor plan.net rows → (v : ℕ) (node : Node) → slice_get plan.net.nodes v ≡ Some node →
    let end = (run_of plan rows).stations v in
    totals_of rows node.kind end ≡ sequence_totals rows node.kind (visits_of node.kind end) (run_of plan rows).clock

-- what leaves by an output is what its stream says
abbrev pub ExitsAreStreams : Type 0
ExitsAreStreams =
    (rows : Rows) (s : Station Local) (out : ℕ) → exit_of rows s out ≡ sequence_exit rows (stream_from s out)

-- the span is the greatest time in the sequences
abbrev pub SpanIsSequences : Type 0
SpanIsSequences =
    (plan : Plan) (rows : Rows) → IsReadFor plan.net rows →
    (run_of plan rows).clock ≡ sequence_span (visits_by_node (run_of plan rows) 0 plan.net.nodes)

-- none of the nodes of a lower rank than this is refused
abbrev pub IsFineBelow : Plan → Rows → ℕ → Type 0
IsFineBelow plan rows rank =
    (r v : ℕ) (node : Node) → r < rank → slice_get plan.order r ≡ Some v → slice_get plan.net.nodes v ≡ Some node →
    sequence_refusal plan.net.bound v (visits_of node.kind ((run_of plan rows).stations v)) ≡ None

-- if no node of a lower rank is refused and the node at this rank is, its refusal is that of the run
abbrev pub RefusalIsFirst : Type 0
RefusalIsFirst =
    (plan : Plan) (rows : Rows) → IsReadFor plan.net rows → (rank v : ℕ) (node : Node) (refusal : Refusal) →
    slice_get plan.order rank ≡ Some v → slice_get plan.net.nodes v ≡ Some node → IsFineBelow plan rows rank →
    sequence_refusal plan.net.bound v (visits_of node.kind ((run_of plan rows).stations v)) ≡ Some refusal →
    refusal_of plan rows ≡ Some refusal

-- if no node is refused, the run isn't
abbrev pub RefusalIsNone : Type 0
RefusalIsNone =
    (plan : Plan) (rows : Rows) → IsReadFor plan.net rows → IsFineBelow plan rows (length plan.order) → refusal_of plan rows ≡ None
