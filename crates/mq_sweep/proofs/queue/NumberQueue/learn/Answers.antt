use Rattle.mq_sweep.proofs.QueueRule.{learns}
use Rattle.mq_sweep.proofs.queue.NumberQueue.learn.Goals as goal

pub learn_as-requires-clause-rule : goal.learn_as-requires-clause-rule
learn_as-requires-clause-rule c = learns _ _
