use Rattle.mq_kinds.proofs.Tiers.{before-there, times-here}
use Rattle.mq_kinds.proofs.forkjoin.forkjoin_piece.Goals as goal

pub block_times-requires-clause-before : goal.block_times-requires-clause-before
block_times-requires-clause-before c = before-there c.args.load.now.arrivals.now.time c.args.work.now _ _ _ c.step_of-step.ensures.arrive c.step_of-step.ensures.demands _ c.in-Some.before _ c.requires.fit.before c.in-Some.is c.get.ensures

pub returns-in_ok-times-in-Some : goal.returns-in_ok-times-in-Some
returns-in_ok-times-in-Some c = times-here c.args.load.now.arrivals.now.time c.args.work.now _ _ _ c.step_of-step.ensures.arrive c.step_of-step.ensures.demands _ c.in-Some.before c.in_ok-times-in-Some.times c.in-Some.is c.in_ok-times-in-Some.ensures
