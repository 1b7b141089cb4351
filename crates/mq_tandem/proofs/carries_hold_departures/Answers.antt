use Rattle.mq_tandem.proofs.Recurrence.{all-departures}
use Rattle.mq_tandem.proofs.carries_hold_departures.Goals as goal

pub returns : goal.returns
returns c = let step = c.args.step.now in all-departures step.arrive.now step.demands.now step.places.now step.load
