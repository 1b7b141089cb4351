use Rattle.std.proofs.Common.{◌≤◌, length}
use Rattle.std.specs.Prelude.{vec_capacity}
use Rattle.mq_counts.specs.TailPieces.{AreNodeWaits}
use Rattle.mq_counts.proofs.tail_pieces.waits_by_node.Given as goal

-- the nodes so far
abbrev pub invariant-loop-node : goal.invariant-loop-node
invariant-loop-node l = record {
  room : length l.known.nodes.now ≤ vec_capacity l.all;
  so_far : AreNodeWaits l.known.nodes.now l.node l.all.items;
}
