use Rattle.mq_core.proofs.EachKind.Plans.{orders-rank}
use Rattle.mq_core.proofs.laws.orders_rank.Goals as goal

pub returns : goal.returns
returns c = orders-rank
