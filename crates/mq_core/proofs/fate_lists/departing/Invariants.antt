use Rattle.std.proofs.Common.{◌≡◌, ◌≤◌, length, map, take}
use Rattle.std.specs.Vec.{vec_len, vec_capacity}
use Rattle.mq_core.specs.declared.model.Fate.TheVariants.{Departs}
use Rattle.mq_core.proofs.fate_lists.departing.Given as goal

abbrev pub invariant-loop-time : goal.invariant-loop-time
invariant-loop-time l = record {
  so_far : l.fates.items ≡ map (λ time. Departs time) (take l.time-index l.times);
  len : vec_len l.fates ≡ l.time-index;
  room : length l.times ≤ vec_capacity l.fates;
}
