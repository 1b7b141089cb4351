-- What came to the nodes of a run, and what left them.
use Rattle.std.specs.List.{AllByRecursion}
use Rattle.std.specs.Prelude.{◌≡◌, ℕ, List, length, Some, slice_get}
use Rattle.mq_core.specs.Results.{visits_of}
use Rattle.mq_core.specs.Sequences.{streams_below}
use Rattle.mq_core.specs.Sound.{outputs_in}
use Rattle.mq_core.specs.StandardTable.{run_of}
use Rattle.mq_core.specs.declared.model.Node.{Node}
use Rattle.mq_core.specs.declared.model.Plan.{Plan}
use Rattle.mq_core.specs.declared.model.Rows.{Rows}
use Rattle.mq_counts.specs.Counts.{AreCountable}
use Rattle.mq_counts.specs.Seen.{streams_in, visits_in}
use Rattle.mq_counts.specs.declared.counts.NodeSequences.{NodeSequences}

-- these are the visits and the streams of a node
pub record AreSequencesOf (plan : Plan) (rows : Rows) (v : ℕ) (node : Node) (sequences : NodeSequences) : Type 0 where
  pub number : sequences.number ≡ v
  pub kind : sequences.kind.now ≡ node.kind
  pub visits : visits_in sequences.visits ≡ visits_of node.kind ((run_of plan rows).stations v)
  pub streams : streams_in sequences.streams ≡ streams_below (run_of plan rows) v (outputs_in node.kind)

-- the visits and the streams of the first `count`
-- nodes
pub record AreFirstSequences (plan : Plan) (rows : Rows) (count : ℕ) (all : List NodeSequences) : Type 0 where
  pub len : length all ≡ count
  pub countable : AllByRecursion (AreCountable rows) all
  pub each : (v : ℕ) (sequences : NodeSequences) → slice_get all v ≡ Some sequences → (node : Node) → slice_get plan.net.nodes v ≡ Some node → AreSequencesOf plan rows v node sequences
