use Rattle.std.proofs.Common.{◌≤◌, ◌^◌, arith}
use Rattle.mq_core.specs.Handling.{demand_of_job}
use Rattle.mq_core.proofs.ForkJoin.ForkJoinSums.{sum-next}
use Rattle.mq_core.proofs.demands.sum_of.Goals as goal
use Rattle.mq_base.proofs.lemmas.Each.{Each-get}

pub loop-at-preserved : goal.loop-at-preserved
loop-at-preserved c =
    let least = Each-get (λ demand. demand_of_job c.args.rows.now demand c.args.job ≤ 2 ^ 36) c.args.demands.now c.loop-at.at _ c.requires.small c.get.ensures in
    let value = c.demand_of-sum.ensures in
    record {
      sum = sum-next c.args.rows.now c.args.demands.now c.args.job c.loop-at.sum c.demand_of-sum.result _ c.loop-at.at _ c.get.ensures c.demand_of-sum.ensures c.loop-at.invariant.sum;
      small = omega arith;
    }
