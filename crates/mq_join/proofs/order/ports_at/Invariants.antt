use Rattle.std.proofs.Common.{◌≡◌, ◌≤◌, length, map, take}
use Rattle.std.specs.Vec.{vec_len, vec_capacity}
use Rattle.mq_join.specs.Items.{port_at}
use Rattle.mq_join.proofs.order.ports_at.Given as goal

abbrev pub invariant-loop-at : goal.invariant-loop-at
invariant-loop-at l = record {
  so_far : l.ports.items ≡ map (port_at l.first l.further) (take l.at l.indices);
  len : vec_len l.ports ≡ l.at;
  room : length l.indices ≤ vec_capacity l.ports;
}
