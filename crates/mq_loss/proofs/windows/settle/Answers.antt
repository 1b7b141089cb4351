use Rattle.mq_loss.proofs.Fates.{settled-is}
use Rattle.mq_loss.proofs.windows.settle.Goals as goal

pub returns-clause-settled : goal.returns-clause-settled
returns-clause-settled g c = settled-is c.args.places c.args.stream.now.time c.args.demands.now _ c.requires.load.each c.in_ok-settled.ensures.admitted c.in_ok-settled.ensures.departs
