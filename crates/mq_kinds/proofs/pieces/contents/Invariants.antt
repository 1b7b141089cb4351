use Rattle.std.proofs.Common.{◌≡◌, ◌≤◌, drop, length, take}
use Rattle.std.specs.List.{filter_map}
use Rattle.std.specs.Vec.{vec_len, vec_capacity}
use Rattle.std.specs.Vec.Iter.{into_iter_items, into_iter_len}
use Rattle.mq_kinds.proofs.pieces.contents.Given as goal

-- what is in the pieces so far, and the pieces that are left
abbrev pub invariant-takes : goal.invariant-takes
invariant-takes g l = record {
  len : into_iter_len l.left ≡ length (into_iter_items l.left);
  short : vec_len l.contents ≤ l.counter;
  room : l.count ≤ vec_capacity l.contents;
  first : l.contents.items ≡ filter_map g.X.Content.within (take l.counter (into_iter_items l.initial.left));
  rest : into_iter_items l.left ≡ drop l.counter (into_iter_items l.initial.left);
}
