use Rattle.std.proofs.Common.{◌∙◌, arith}
use Rattle.mq_core.specs.Recurrences.{lindley}
use Rattle.mq_kinds.specs.Branches.{AreDepartsAt}
use Rattle.mq_kinds.proofs.Tiers.{all-more, times-there}
use Rattle.mq_kinds.proofs.forkjoin.joined.Goals as goal

pub joined_times-requires-clause-group : goal.joined_times-requires-clause-group
joined_times-requires-clause-group c =
    let all = times-there c.args.arrivals.now.time c.args.work.now c.loop-at.at _ _ c.step_of-step.ensures.arrive c.step_of-step.ensures.demands _ c.args.groups.now c.get.result.now c.requires.groups c.get.ensures in
    λ b d l. all.each b d (let len = all.len in omega arith)

pub loop-at-preserved : goal.loop-at-preserved
loop-at-preserved c =
    let step = c.step_of-step.ensures in
    all-more (AreDepartsAt c.args.arrivals.now.time c.args.work.now.server c.args.work.now.passage) _ _ c.loop-at.at c.in-Ok.departs c.loop-at.invariant
    (c.in-Ok.ensures ∙ (c.carries_are_departures.ensures ∙ (λ k. lindley 0 (step.arrive k) (step.demands k)))) c.in-Ok-push.ensures.ok
