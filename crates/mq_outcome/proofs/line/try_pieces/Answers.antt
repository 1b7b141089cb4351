use Rattle.std.proofs.lemmas.Result.{on_err_weaker}
use Rattle.mq_outside.specs.Pieces.{pieces_text}
use Rattle.mq_outside.proofs.lemmas.Gathers.{part_flushed}
use Rattle.mq_outcome.proofs.line.try_pieces.Goals as goal

pub returns-clause-err : goal.returns-clause-err
returns-clause-err g c =
    on_err_weaker _ (part_flushed _ _ _ _ _ _ _ _ (pieces_text c.args.pieces.now) c.new-pending.ensures c.in_ok-add_pieces.ensures.ok) c.flush.ensures.err
