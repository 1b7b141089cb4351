-- The text of the pieces of a line.
use Rattle.std.specs.Prelude.{ℕ, List, [], ◌∷◌, ◌++◌, decimal}
use Rattle.mq_outside.specs.declared.gather.Piece.{Piece}
use Rattle.mq_outside.specs.declared.gather.Piece.TheVariants.{Text, Number}

-- the bytes of a piece, or the digits of its number
abbrev pub piece_text : Piece → List ℕ
piece_text (Text bytes) = bytes.now
piece_text (Number n) = decimal n

-- the texts of the pieces, joined in order
abbrev pub pieces_text : List Piece → List ℕ
pieces_text [] = []
pieces_text (piece ∷ pieces) = piece_text piece ++ pieces_text pieces
