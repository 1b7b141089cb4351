use Rattle.std.proofs.Common.{◌≡◌, ◌<◌, ℕ, Some}
use Rattle.std.specs.Prelude.{slice_get}
use Rattle.mq_core.specs.declared.model.Input.{Input}
use Rattle.mq_kept.specs.declared.former.Former.TheVariants.{Same}
use Rattle.mq_kept.proofs.nodes.reads_the_same.Given as goal

-- the ports so far read the same
abbrev pub invariant-loop-port : goal.invariant-loop-port
invariant-loop-port l = (port : ℕ) (input : Input) → port < l.port → slice_get l.node.inputs port ≡ Some input → slice_get l.past.formers.now input.node ≡ Some Same
