use Rattle.std.proofs.Common.{◌≡◌, ◌++◌, ◌≤◌, [], drop, length, take}
use Rattle.std.specs.Vec.{vec_len, vec_capacity}
use Rattle.mq_core.specs.Kinds.Join.{matches_from}
use Rattle.mq_join.specs.Items.{items_of}
use Rattle.mq_join.proofs.matches.places_of.Given as goal

abbrev pub invariant-loop-at : goal.invariant-loop-at
invariant-loop-at l = record {
  so_far : l.matches.items ++ matches_from l.gathered.ports (items_of l.gathered) (take l.at (items_of l.gathered)) (drop l.at (items_of l.gathered)) ≡ matches_from l.gathered.ports (items_of l.gathered) [] (items_of l.gathered);
  len : vec_len l.matches ≡ l.at;
  room : length l.gathered.port ≤ vec_capacity l.matches;
}
