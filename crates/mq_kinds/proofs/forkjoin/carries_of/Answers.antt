use Rattle.std.proofs.Common.{arith}
use Rattle.mq_kinds.specs.ForkJoins.{AreCarriesAt}
use Rattle.mq_kinds.proofs.Tiers.{all-more, carries-here, sums-there}
use Rattle.mq_kinds.proofs.forkjoin.carries_of.Goals as goal

pub block_carries-requires-clause-sums : goal.block_carries-requires-clause-sums
block_carries-requires-clause-sums c =
    let all = sums-there c.args.arrivals.now.time c.args.work.now c.loop-at.at _ _ c.step_of-step.ensures.arrive c.step_of-step.ensures.demands _ c.args.groups.now c.get.result.now c.requires.groups c.get.ensures in
    λ b d l. all.each b d (let len = all.len in omega arith)

pub loop-at-preserved : goal.loop-at-preserved
loop-at-preserved c =
    all-more (AreCarriesAt c.args.arrivals.now.time c.args.work.now) _ _ c.loop-at.at c.in-Ok.carries c.loop-at.invariant
    (carries-here c.args.arrivals.now.time c.args.work.now c.loop-at.at _ _ c.step_of-step.ensures.arrive c.step_of-step.ensures.demands c.in-Ok.carries c.in-Ok.ensures.len c.in-Ok.ensures.each) c.in-Ok-push.ensures.ok
