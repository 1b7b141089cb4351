use Rattle.mq_sweep.specs.QueueRule.{OnlyTook}
use Rattle.mq_sweep.proofs.crew.work.Given as goal

abbrev pub invariant-takes : goal.invariant-takes
invariant-takes g l = OnlyTook l.fn.seat l.seat
