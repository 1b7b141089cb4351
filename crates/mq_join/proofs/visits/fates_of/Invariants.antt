use Rattle.std.proofs.Common.{◌≡◌, ◌≤◌, length, map, take}
use Rattle.std.specs.Vec.{vec_len, vec_capacity}
use Rattle.mq_core.specs.Kinds.Join.{fate_by_match}
use Rattle.mq_join.proofs.visits.fates_of.Given as goal

abbrev pub invariant-loop-at : goal.invariant-loop-at
invariant-loop-at l = record {
  so_far : l.fates.items ≡ map (fate_by_match l.arrive) (take l.at l.matches);
  len : vec_len l.fates ≡ l.at;
  room : length l.matches ≤ vec_capacity l.fates;
}
