use Rattle.std.proofs.Common.{◌≡◌, filter, take}
use Rattle.mq_engine.specs.Progress.{is_ready}
use Rattle.mq_engine.proofs.progress.ready_nodes.Given as goal

abbrev pub invariant-loop-rank : goal.invariant-loop-rank
invariant-loop-rank l = l.ready.items ≡ filter (is_ready l.plan.net.nodes l.stands) (take l.rank l.plan.order)
