use Rattle.std.proofs.Common.{◌≡◌, ◌<◌, ◌*◌, ℕ, List, drop, get_or, length, take}
use Rattle.std.specs.List.{filter_map}
use Rattle.std.specs.Vec.Iter.{into_iter_items, into_iter_len}
use Rattle.mq_kinds.proofs.pieces.grouped.Given as goal

-- the groups so far, and the pieces that are left
abbrev pub invariant-groups : goal.invariant-groups
invariant-groups g l = record {
  len : into_iter_len l.left ≡ length (into_iter_items l.left);
  many : length l.groups ≡ l.counter;
  each : (i : ℕ) (d : List g.row.X.Denot) → i < l.counter → get_or l.groups i d ≡ filter_map g.X.Content.within (take l.size (drop (i * l.size) l.fn.made));
  rest : into_iter_items l.left ≡ drop (l.counter * l.size) l.fn.made;
}
