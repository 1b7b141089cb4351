use Rattle.mq_engine.proofs.Settling.{IsSettling}
use Rattle.mq_engine.proofs.progress.settle.Given as goal

abbrev pub invariant-loop-node_result : goal.invariant-loop-node_result
invariant-loop-node_result l = IsSettling l.initial.progress.visits.items l.initial.progress.outputs.items l.initial.progress.stands.items l.initial.results.items l.progress.visits.items l.progress.outputs.items l.progress.stands.items l.results.items

abbrev pub decreases-loop-node_result : goal.decreases-loop-node_result
decreases-loop-node_result l = goal.left-loop-node_result l
