use Rattle.mq_alike.proofs.First.{first}
use Rattle.mq_alike.proofs.laws.alike_is_first.Goals as goal

pub returns : goal.returns
returns c = first
