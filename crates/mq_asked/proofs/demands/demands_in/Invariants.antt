use Rattle.std.proofs.Common.{◌≡◌, map, take, ◌≤◌, length}
use Rattle.mq_core.specs.Handling.{demand_of_job}
use Rattle.std.specs.Vec.{vec_len, vec_capacity}
use Rattle.mq_asked.proofs.demands.demands_in.Given as goal

abbrev pub invariant-loop-at : goal.invariant-loop-at
invariant-loop-at l = record {
  so_far : l.demands.items ≡ map (demand_of_job l.rows l.demand) (take l.at l.jobs);
  len : vec_len l.demands ≡ l.at;
  room : length l.jobs ≤ vec_capacity l.demands;
}
