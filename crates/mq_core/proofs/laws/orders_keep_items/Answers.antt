use Rattle.mq_core.proofs.Sequences.SequenceOrder.{orders-keep_items}
use Rattle.mq_core.proofs.laws.orders_keep_items.Goals as goal

pub returns : goal.returns
returns c = orders-keep_items
