use Rattle.mq_outside.proofs.lemmas.Gathers.{gathers_added, gathers_refused}
use Rattle.mq_outside.proofs.PiecesLemmas.{pieces_next}
use Rattle.mq_outside.proofs.gather.add_pieces.Goals as goal

pub loop-piece-preserved : goal.loop-piece-preserved
loop-piece-preserved g c = gathers_added _ (pieces_next _ _ _ c.loop-piece-test.true) c.loop-piece.invariant c.in_ok-add_piece.ensures

pub returns-in_err-add_piece : goal.returns-in_err-add_piece
returns-in_err-add_piece g c = gathers_refused _ c.from_residual.ensures.0 _ (pieces_next _ _ _ c.loop-piece-test.true) c.loop-piece.invariant c.in_err-add_piece.ensures
