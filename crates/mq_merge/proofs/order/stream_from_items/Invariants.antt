use Rattle.std.proofs.Common.{◌≡◌, ◌≤◌, ℕ, map, take, length}
use Rattle.std.specs.Vec.{vec_len, vec_capacity}
use Rattle.mq_merge.proofs.order.stream_from_items.Given as goal

abbrev pub invariant-loop-item : goal.invariant-loop-item
invariant-loop-item l = record {
  times : l.time.items ≡ map (λ (p : ℕ × ℕ). p.0) (take l.item-index l.items);
  jobs : l.job.items ≡ map (λ (p : ℕ × ℕ). p.1) (take l.item-index l.items);
  time_len : vec_len l.time ≡ l.item-index;
  job_len : vec_len l.job ≡ l.item-index;
  time_room : length l.items ≤ vec_capacity l.time;
  job_room : length l.items ≤ vec_capacity l.job;
}
