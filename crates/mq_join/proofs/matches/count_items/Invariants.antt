use Rattle.std.proofs.Common.{◌≡◌, ◌++◌, ◌≤◌, [], drop, length, take}
use Rattle.std.specs.Vec.{vec_len, vec_capacity}
use Rattle.mq_join.specs.Items.{AreCounted, indices_from, items_of}
use Rattle.mq_join.proofs.matches.count_items.Given as goal

abbrev pub invariant-loop-at : goal.invariant-loop-at
invariant-loop-at l = record {
  rows : AreCounted l.gathered.ports (take l.at (items_of l.gathered)) l.rows;
  so_far : l.indices.items ++ indices_from (take l.at (items_of l.gathered)) (drop l.at (items_of l.gathered)) ≡ indices_from [] (items_of l.gathered);
  len : vec_len l.indices ≡ l.at;
  room : length l.gathered.port ≤ vec_capacity l.indices;
}
