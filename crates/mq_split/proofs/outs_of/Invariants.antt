use Rattle.std.proofs.Common.{◌≡◌, ◌+◌, ◌++◌, ◌≤◌, drop, length}
use Rattle.std.specs.Vec.{vec_len, vec_capacity}
use Rattle.mq_split.specs.Outs.{outs_from}
use Rattle.mq_split.proofs.outs_of.Given as goal

abbrev pub invariant-loop-at : goal.invariant-loop-at
invariant-loop-at l = record {
  so_far : l.outs.items ++ outs_from l.route (l.first + l.at) (drop l.at l.values) ≡ outs_from l.route l.first l.values;
  len : vec_len l.outs ≡ l.at;
  room : length l.values ≤ vec_capacity l.outs;
}
