use Rattle.std.proofs.Common.{◌≡◌, ◌≤◌, ◌++◌, drop, length}
use Rattle.std.specs.List.{zip}
use Rattle.std.specs.Vec.{vec_len, vec_capacity}
use Rattle.mq_merge.proofs.order.items_of.Given as goal

-- the items so far and those of what is left are all
abbrev pub invariant-loop-at : goal.invariant-loop-at
invariant-loop-at l = record {
  so_far : l.items.items ++ zip (drop l.at l.times) (drop l.at l.jobs) ≡ zip l.times l.jobs;
  len : vec_len l.items ≡ l.at;
  room : length l.times ≤ vec_capacity l.items;
}
