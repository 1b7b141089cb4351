use Rattle.std.proofs.Common.{◌≡◌, ◌≤◌, ◌++◌, length, map, take}
use Rattle.std.specs.Prelude.{slice_index}
use Rattle.std.specs.Vec.{vec_len, vec_capacity}
use Rattle.mq_join.proofs.order.jobs_at.Given as goal

abbrev pub invariant-loop-at : goal.invariant-loop-at
invariant-loop-at l = record {
  so_far : l.jobs.items ≡ map (slice_index (l.first ++ l.second)) (take l.at l.indices);
  len : vec_len l.jobs ≡ l.at;
  room : length l.indices ≤ vec_capacity l.jobs;
}
