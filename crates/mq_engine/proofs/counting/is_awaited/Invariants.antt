use Rattle.std.proofs.Common.{◌≡◌, ◌<◌, ℕ, Some}
use Rattle.std.specs.Prelude.{slice_get}
use Rattle.mq_core.specs.declared.model.Input.{Input}
use Rattle.mq_core.specs.declared.model.Node.{Node}
use Rattle.mq_engine.specs.declared.progress.Stand.TheVariants.{Waiting}
use Rattle.mq_engine.proofs.counting.is_awaited.Given as goal

-- the nodes so far
abbrev pub invariant-loop-reader : goal.invariant-loop-reader
invariant-loop-reader l =
    (v port : ℕ) (reader : Node) (input : Input) → v < l.reader → slice_get l.nodes v ≡ Some reader → slice_get l.stands v ≡ Some Waiting → slice_get reader.inputs port ≡ Some input → input.node ≡ l.node → ⊥
