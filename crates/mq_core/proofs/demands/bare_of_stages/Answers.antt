use Rattle.std.proofs.Common.{◌≡◌, suc, ◌+◌, drop, ap, arith}
use Rattle.mq_core.specs.Handling.{demand_of_stages}
use Rattle.mq_core.proofs.Tandem.TandemDemands.{demands-at, demand-told, demands-most, demands-end}
use Rattle.mq_core.proofs.demands.bare_of_stages.Goals as goal

pub overflow_add-total : goal.overflow_add-total
overflow_add-total c =
    let a = demands-at c.args.rows.now c.args.stages.now c.args.job c.loop-at.at c.get.result.now c.get.ensures in
    let b = demands-most c.args.rows.now c.args.stages.now c.args.job c.requires in
    let d = c.demand_of-total.ensures in
    let e = c.loop-at.invariant in
    omega arith

pub loop-at-preserved : goal.loop-at-preserved
loop-at-preserved c =
    let a = demands-at c.args.rows.now c.args.stages.now c.args.job c.loop-at.at c.get.result.now c.get.ensures in
    let next : suc c.loop-at.at ≡ c.loop-at.at + 1 = omega arith in
    let b = ap (λ n. demand_of_stages c.args.rows.now (drop n c.args.stages.now) c.args.job) next in
    let d = c.demand_of-total.ensures in
    let e = c.loop-at.invariant in
    omega arith

pub returns : goal.returns
returns c =
    let a = demands-end c.args.rows.now c.args.stages.now c.args.job c.loop-at.at (let l = c.loop-at-test.false in let n = c.len-at-end.ensures in omega arith) in
    let e = c.loop-at.invariant in
    omega arith

pub demand_of-total-requires : goal.demand_of-total-requires
demand_of-total-requires c = demand-told c.args.rows.now c.args.stages.now c.args.job c.loop-at.at c.get.result.now c.get.ensures c.requires.each
