-- The text of the pieces from an index on.
use Rattle.std.proofs.Common.{◌≡◌, ℕ, ◌+◌, ◌<◌, List, ◌++◌, length, drop, get_or, ap, add-one, drop-cons}
use Rattle.mq_outside.specs.declared.gather.Piece.{Piece}
use Rattle.mq_outside.specs.Pieces.{piece_text, pieces_text}

pub pieces_next : (all : List Piece) (i : ℕ) (d : Piece) → i < length all → pieces_text (drop i all) ≡ piece_text (get_or all i d) ++ pieces_text (drop (i + 1) all)
pieces_next all i d within = rw add-one (ap pieces_text (drop-cons all i d within))
