use Rattle.mq_server.proofs.Recurrence.{all-departures}
use Rattle.mq_server.proofs.carries_are_departures.Goals as goal

pub returns : goal.returns
returns c = let step = c.args.step.now in all-departures step.arrive.now step.demands.now step.load
