use Rattle.std.proofs.Common.{◌≡◌, length, ◌-◌}
use Rattle.mq_core.specs.Wiring.{ranked_after, ranking}
use Rattle.mq_graph.proofs.order.rank.Given as goal

abbrev pub invariant-loop-step : goal.invariant-loop-step
invariant-loop-step l = ranked_after (length l.nodes - l._step) l.nodes l.order ≡ ranking l.nodes
