use Rattle.std.proofs.Common.{◌≤◌}
use Rattle.std.specs.Prelude.{vec_capacity}
use Rattle.mq_crew.specs.Crew.{AreAll}
use Rattle.mq_counts.specs.Tails.{IsTailIn}
use Rattle.mq_counts.proofs.tails.known_tails.Given as goal

-- the nodes so far
abbrev pub invariant-loop-node : goal.invariant-loop-node
invariant-loop-node l = record {
  room : l.count ≤ vec_capacity l.tails;
  so_far : AreAll (IsTailIn l.of.known.nodes.now) l.node l.tails.items;
}
