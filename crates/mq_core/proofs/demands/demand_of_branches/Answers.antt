use Rattle.std.proofs.Common.{◌≤◌, length, sum_by, ap, arith}
use Rattle.std.specs.List.{flat_map}
use Rattle.std.proofs.lemmas.List.{drop_all}
use Rattle.mq_base.proofs.lemmas.FlatMaps.{sum-part}
use Rattle.mq_core.proofs.lemmas.Demands.{demands-most, told-at}
use Rattle.mq_core.specs.Handling.{demand_of_job}
use Rattle.mq_core.proofs.demands.demand_of_branches.Goals as goal

pub sum_of-sum-requires : goal.sum_of-sum-requires
sum_of-sum-requires c = told-at c.args.rows.now c.args.branches.now c.args.job c.loop-at.at _ c.get.ensures c.requires

pub overflow_add-sum : goal.overflow_add-sum
overflow_add-sum c =
    let a = sum-part (λ demand. demand_of_job c.args.rows.now demand c.args.job) c.args.branches.now c.loop-at.at _ c.get.ensures in
    let b = demands-most c.args.rows.now (flat_map (λ demands. demands) c.args.branches.now) c.args.job c.requires in
    let d = c.sum_of-sum.ensures in
    let e = c.loop-at.invariant in
    omega arith

pub loop-at-preserved : goal.loop-at-preserved
loop-at-preserved c =
    let a = sum-part (λ demand. demand_of_job c.args.rows.now demand c.args.job) c.args.branches.now c.loop-at.at _ c.get.ensures in
    let d = c.sum_of-sum.ensures in
    let e = c.loop-at.invariant in
    omega arith

pub returns : goal.returns
returns c =
    let ended : length c.args.branches.now ≤ c.loop-at.at = omega arith in
    let none = ap (λ l. sum_by (λ demand. demand_of_job c.args.rows.now demand c.args.job) (flat_map (λ demands. demands) l)) (drop_all c.loop-at.at c.args.branches.now ended) in
    let e = c.loop-at.invariant in
    omega arith
