use Rattle.mq_alike.proofs.Bounded.{bounded}
use Rattle.mq_alike.proofs.laws.again_is_bounded.Goals as goal

pub returns : goal.returns
returns c = bounded
