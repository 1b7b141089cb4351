use Rattle.std.proofs.Common.{sym, ◌∙◌, ap, take, drop, ◌-◌}
use Rattle.mq_core.specs.Recurrences.{in_series}
use Rattle.mq_forkjoin.proofs.ForkJoining.{servers-fit, early, length-branch, forkjoining-begins, forkjoining-next, forkjoining-ends}
use Rattle.mq_forkjoin.proofs.fork_departures.Goals as goal

pub loop-branch-init : goal.loop-branch-init
loop-branch-init c = forkjoining-begins _ _ _ _ _ _ c.in_ok-departs.ensures c.len-branch.ensures c.len-end.ensures

pub overflow_sub-first : goal.overflow_sub-first
overflow_sub-first c = servers-fit _ _ _ _ _ _ _ c.requires.branches c.loop-branch-test.true c.get.ensures c.loop-branch.invariant

pub branch_departures-requires-clause-early : goal.branch_departures-requires-clause-early
branch_departures-requires-clause-early c = early _ _ _ c.requires.branches c.requires.load

pub later_times-requires : goal.later_times-requires
later_times-requires c =
    let through = c.in_ok-through.ensures ∙ ap (λ demands. in_series c.args.stream.now.time (take (c.loop-branch.end - (c.loop-branch.end - c.get.result.now)) (drop (c.loop-branch.end - c.get.result.now) demands))) c.as_slice.ensures in
    length-branch c.args.stream.now.time _ c.args.demands.now (c.loop-branch.end - c.get.result.now) _ c.requires.load through ∙ sym c.loop-branch.invariant.many

pub loop-branch-preserved : goal.loop-branch-preserved
loop-branch-preserved c =
    let through = c.in_ok-through.ensures ∙ ap (λ demands. in_series c.args.stream.now.time (take (c.loop-branch.end - (c.loop-branch.end - c.get.result.now)) (drop (c.loop-branch.end - c.get.result.now) demands))) c.as_slice.ensures in
    forkjoining-next c.args.stream.now.time _ _ _ c.args.demands.now c.args.branches.now _ c.loop-branch.end c.get.result.now c.requires.branches c.requires.load c.loop-branch-test.true c.get.ensures through c.in_ok-departs-2.ensures c.loop-branch.invariant

pub returns : goal.returns
returns c = forkjoining-ends _ _ _ _ _ _ c.requires.branches c.loop-branch-test.false c.loop-branch.invariant
