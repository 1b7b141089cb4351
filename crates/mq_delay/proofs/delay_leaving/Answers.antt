use Rattle.mq_merge.proofs.Sorted.{times-in_order}
use Rattle.mq_delay.proofs.delay_leaving.Goals as goal

pub returns-clause-times : goal.returns-clause-times
returns-clause-times g c = times-in_order c.in_ok-leaving.leaving c.args.jobs.now c.args.departs.now c.in_ok-leaving.ensures.stream c.requires c.in_ok-leaving.ensures.items
