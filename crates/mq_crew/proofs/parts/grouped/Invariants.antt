use Rattle.std.proofs.Common.{◌≡◌, drop, length, take}
use Rattle.std.specs.Vec.Iter.{into_iter_items, into_iter_len}
use Rattle.mq_crew.specs.Crew.{AreAll, AreGroups, IsPieceOf, total_size}
use Rattle.mq_crew.proofs.parts.grouped.Given as goal

abbrev pub invariant-parts : goal.invariant-parts
invariant-parts g l = record {
  len : into_iter_len l.left ≡ length (into_iter_items l.left);
  groups : AreGroups g.P.Pieces.size g.P.Pieces.is_piece (take l.part-index l.parts) l.groups;
  rest : AreAll (IsPieceOf g.P.Pieces.size g.P.Pieces.is_piece (drop l.part-index l.parts)) (total_size g.P.Pieces.size (drop l.part-index l.parts)) (into_iter_items l.left);
}
