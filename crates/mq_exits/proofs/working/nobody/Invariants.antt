use Rattle.std.proofs.Common.{◌≡◌, ◌≤◌, length, map, take}
use Rattle.std.specs.Vec.{vec_len, vec_capacity}
use Rattle.mq_exits.proofs.working.nobody.Given as goal

abbrev pub invariant-loop : goal.invariant-loop
invariant-loop l = record {
  so_far : l.found.items ≡ map (λ _. 0) (take l.index l.arrive);
  len : vec_len l.found ≡ l.index;
  room : length l.arrive ≤ vec_capacity l.found;
}
