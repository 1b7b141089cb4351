use Rattle.std.proofs.Common.{◌<◌, drop}
use Rattle.mq_crew.specs.Crew.{IsPieceOf, total_size}
use Rattle.mq_crew.proofs.parts.PartsPieces.piece.Given as goal

abbrev pub invariant-parts : goal.invariant-parts
invariant-parts g l = record {
  inside : l.at < total_size g.P.Pieces.size (drop l.part-index l.self.parts.now);
  leads : (piece : g.row.P-Piece.Denot) → IsPieceOf g.P.Pieces.size g.P.Pieces.is_piece (drop l.part-index l.self.parts.now) l.at piece → IsPieceOf g.P.Pieces.size g.P.Pieces.is_piece l.self.parts.now l.b piece;
}
