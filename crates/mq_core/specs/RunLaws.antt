-- A run in sequences and the sequences of its nodes say the same.
use Rattle.std.specs.Prelude.{◌≡◌, ◌<◌, ℕ, List, length, Some, slice_get}
use Rattle.mq_core.specs.Sequences.{IsRunOf, streams_below}
use Rattle.mq_core.specs.Local.{Local}
use Rattle.mq_core.specs.Machine.{State}
use Rattle.mq_core.specs.Results.{visits_of, stream_from}
use Rattle.mq_core.specs.Sound.{outputs_in}
use Rattle.mq_core.specs.StandardTable.{run_of}
use Rattle.mq_core.specs.declared.model.Node.{Node}
use Rattle.mq_core.specs.declared.model.Plan.{Plan}
use Rattle.mq_core.specs.declared.model.Rows.{Rows}
use Rattle.mq_core.specs.declared.model.Run.{Run}
use Rattle.mq_core.specs.declared.model.Stream.{Stream}

-- a run in sequences has the sequences of node v at its index
pub record HasSequences (end : State Local) (run : Run) (v : ℕ) (node : Node) : Type 0 where
  pub visits : slice_get run.visits v ≡ Some (visits_of node.kind (end.stations v))
  pub outputs : slice_get run.outputs v ≡ Some (streams_below end v (outputs_in node.kind))

abbrev pub RunsHaveSequences : Type 0
RunsHaveSequences =
    (plan : Plan) (rows : Rows) (run : Run) → IsRunOf plan rows run → (v : ℕ) (node : Node) → slice_get plan.net.nodes v ≡ Some node →
    HasSequences (run_of plan rows) run v node

-- if there are as many sequences as nodes, with those of each node at its index, they are the run in sequences
abbrev pub SequencesMakeRuns : Type 0
SequencesMakeRuns =
    (plan : Plan) (rows : Rows) (run : Run) → length run.visits ≡ length plan.net.nodes → length run.outputs ≡ length plan.net.nodes →
    ((v : ℕ) (node : Node) → slice_get plan.net.nodes v ≡ Some node → HasSequences (run_of plan rows) run v node) →
    IsRunOf plan rows run

-- the streams of a node have the stream of each output at the output's index
abbrev pub OutputsHaveStreams : Type 0
OutputsHaveStreams =
    (end : State Local) (v outs out : ℕ) → out < outs → slice_get (streams_below end v outs) out ≡ Some (stream_from (end.stations v) out)

-- if there are as many streams as outputs, with that of each output at its index, they are the streams of the node
abbrev pub StreamsMakeOutputs : Type 0
StreamsMakeOutputs =
    (end : State Local) (v outs : ℕ) (streams : List Stream) → length streams ≡ outs →
    ((out : ℕ) → out < outs → slice_get streams out ≡ Some (stream_from (end.stations v) out)) →
    streams ≡ streams_below end v outs
