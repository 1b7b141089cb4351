use Rattle.std.proofs.Common.{◌≡◌, ◌≤◌, length, map, take}
use Rattle.std.specs.Vec.{vec_len, vec_capacity}
use Rattle.mq_core.specs.Handling.{demand_of_job}
use Rattle.mq_asked.proofs.asked.all_asked_by.Given as goal

abbrev pub invariant-loop-at : goal.invariant-loop-at
invariant-loop-at l = record {
  so_far : l.all.items ≡ map (λ demand. map (demand_of_job l.rows demand) l.jobs) (take l.at l.demands);
  len : vec_len l.all ≡ l.at;
  room : length l.demands ≤ vec_capacity l.all;
}
