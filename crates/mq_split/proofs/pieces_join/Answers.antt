use Rattle.mq_split.proofs.Pieces.{pieces-join}
use Rattle.mq_split.proofs.pieces_join.Goals as goal

pub returns : goal.returns
returns c = pieces-join
