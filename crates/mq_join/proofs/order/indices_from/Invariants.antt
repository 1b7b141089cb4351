use Rattle.std.proofs.Common.{◌≡◌, ◌≤◌}
use Rattle.std.specs.List.{range_with_len}
use Rattle.std.specs.Vec.{vec_len, vec_capacity}
use Rattle.mq_join.proofs.order.indices_from.Given as goal

abbrev pub invariant-loop-at : goal.invariant-loop-at
invariant-loop-at l = record {
  so_far : l.indices.items ≡ range_with_len l.first l.at;
  len : vec_len l.indices ≡ l.at;
  room : l.count ≤ vec_capacity l.indices;
}
