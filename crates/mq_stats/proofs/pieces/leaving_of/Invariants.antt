use Rattle.std.proofs.Common.{◌≡◌, ◌≤◌, ℕ, map, take, length}
use Rattle.std.specs.Vec.{vec_len, vec_capacity}
use Rattle.mq_stats.proofs.pieces.leaving_of.Given as goal

abbrev pub invariant-loop-departure : goal.invariant-loop-departure
invariant-loop-departure l = record {
  so_far : l.leaving.items ≡ map (λ (d : ℕ × ℕ). d.0) (take l.departure-index l.departure-items);
  len : vec_len l.leaving ≡ l.departure-index;
  room : length l.departure-items ≤ vec_capacity l.leaving;
}
