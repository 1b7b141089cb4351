use Rattle.std.proofs.Common.{◌≡◌, drop}
use Rattle.mq_core.specs.Wiring.{first_ready}
use Rattle.mq_graph.proofs.order.first_ready.Given as goal

abbrev pub invariant-loop-v : goal.invariant-loop-v
invariant-loop-v l = first_ready l.order 0 l.nodes ≡ first_ready l.order l.v (drop l.v l.nodes)
