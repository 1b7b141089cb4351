use Rattle.mq_merge.proofs.Sorted.{times-in_order}
use Rattle.mq_kinds.proofs.delay.by_departure.Goals as goal

pub returns-then-crew-eq1-clause-times : goal.returns-then-crew-eq1-clause-times
returns-then-crew-eq1-clause-times g c = times-in_order c.in_ok-leaving.leaving c.args.jobs.now c.args.departs.now c.in_ok-leaving.ensures.stream c.requires.even c.in_ok-leaving.ensures.items
