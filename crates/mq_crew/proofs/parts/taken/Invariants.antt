use Rattle.std.proofs.Common.{◌≡◌, drop, length, take}
use Rattle.std.specs.Vec.Iter.{into_iter_items, into_iter_len}
use Rattle.mq_crew.proofs.parts.taken.Given as goal

abbrev pub invariant-takes : goal.invariant-takes
invariant-takes g l = record {
  len : into_iter_len l.left ≡ length (into_iter_items l.left);
  first : l.group.items ≡ take l.counter (into_iter_items l.initial.left);
  rest : into_iter_items l.left ≡ drop l.counter (into_iter_items l.initial.left);
}
