-- The sequences of a run, at a node and an output: for the proofs of mq_report too.
use Rattle.std.proofs.Common.{◌≡◌, ℕ, ◌<◌, List, Some, sym, ◌∙◌, length}
use Rattle.std.specs.Prelude.{slice_get}
use Rattle.std.proofs.lemmas.Option.{slice_get_within}
use Rattle.mq_base.proofs.lemmas.Lists.{some_inj}
use Rattle.mq_core.specs.Sequences.{IsRunOf, streams_below}
use Rattle.mq_core.specs.Results.{visits_of}
use Rattle.mq_core.specs.RunLaws.{RunsHaveSequences}
use Rattle.mq_core.specs.Sound.{outputs_in}
use Rattle.mq_core.specs.StandardTable.{run_of}
use Rattle.mq_core.specs.declared.model.Node.{Node}
use Rattle.mq_core.specs.declared.model.Plan.{Plan}
use Rattle.mq_core.specs.declared.model.Rows.{Rows}
use Rattle.mq_core.specs.declared.model.Run.{Run}
use Rattle.mq_core.specs.declared.model.Stream.{Stream}
use Rattle.mq_core.specs.declared.model.Visits.{Visits}

pub visits_inside : RunsHaveSequences → (plan : Plan) (rows : Rows) (run : Run) (v : ℕ) (node : Node) → IsRunOf plan rows run → slice_get plan.net.nodes v ≡ Some node → v < length run.visits
visits_inside law plan rows run v node is here = slice_get_within run.visits v _ (law plan rows run is v node here).visits

pub visits_are : RunsHaveSequences → (plan : Plan) (rows : Rows) (run : Run) (v : ℕ) (node : Node) (visits : Visits) → IsRunOf plan rows run → slice_get plan.net.nodes v ≡ Some node → slice_get run.visits v ≡ Some visits →
    visits_of node.kind ((run_of plan rows).stations v) ≡ visits
visits_are law plan rows run v node visits is here there = some_inj _ _ (sym (law plan rows run is v node here).visits ∙ there)

pub outputs_inside : RunsHaveSequences → (plan : Plan) (rows : Rows) (run : Run) (v : ℕ) (node : Node) → IsRunOf plan rows run → slice_get plan.net.nodes v ≡ Some node → v < length run.outputs
outputs_inside law plan rows run v node is here = slice_get_within run.outputs v _ (law plan rows run is v node here).outputs

pub outputs_are : RunsHaveSequences → (plan : Plan) (rows : Rows) (run : Run) (v : ℕ) (node : Node) (streams : List Stream) → IsRunOf plan rows run → slice_get plan.net.nodes v ≡ Some node → slice_get run.outputs v ≡ Some streams →
    streams_below (run_of plan rows) v (outputs_in node.kind) ≡ streams
outputs_are law plan rows run v node streams is here there = some_inj _ _ (sym (law plan rows run is v node here).outputs ∙ there)
