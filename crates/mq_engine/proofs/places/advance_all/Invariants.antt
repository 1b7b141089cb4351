use Rattle.std.proofs.Common.{◌≡◌, ◌++◌, List, length}
use Rattle.mq_kinds.specs.declared.pieces.Piece.{Piece}
use Rattle.mq_engine.proofs.Advancing.{IsAdvancing}
use Rattle.mq_engine.proofs.places.advance_all.Given as goal

abbrev pub invariant-loop-group : goal.invariant-loop-group
invariant-loop-group g l = record {
  front : (rest : List (List Piece)) × (l.initial.groups.items ≡ l.groups.items ++ rest);
  are : IsAdvancing l.keep l.initial.places.items l.places.items (length l.groups.items);
}

abbrev pub decreases-loop-group : goal.decreases-loop-group
decreases-loop-group g l = length l.groups.items
