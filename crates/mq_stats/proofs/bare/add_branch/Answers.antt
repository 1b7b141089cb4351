use Rattle.std.proofs.Common.{◌≤◌, ap, arith, get_or, length, sum_by}
use Rattle.std.proofs.lemmas.List.{drop_all}
use Rattle.mq_core.specs.Handling.{demand_of_job}
use Rattle.mq_stats.proofs.Asked.{demand-at}
use Rattle.mq_core.specs.Told.{HasDemand}
use Rattle.mq_stats.proofs.bare.add_branch.Goals as goal
use Rattle.mq_base.proofs.lemmas.Each.{Each-get}

pub add_demand-requires : goal.add_demand-requires
add_demand-requires c = record {
  even = c.loop-at.invariant.even;
  told = λ i l. Each-get (λ demand. HasDemand c.args.rows.now demand (get_or c.args.job.now i 0)) c.args.demands.now c.loop-at.at _ (c.requires.told i l).each c.get.ensures;
  fits = λ i l.
      let next = demand-at c.args.rows.now c.args.demands.now (get_or c.args.job.now i 0) c.loop-at.at _ c.get.ensures in
      let so_far = c.loop-at.invariant.sums i l in
      let fits = c.requires.fits i l in
      omega arith;
}

pub loop-at-preserved : goal.loop-at-preserved
loop-at-preserved c = record {
  even = c.add_demand.ensures.even;
  sums = λ i l.
      let next = demand-at c.args.rows.now c.args.demands.now (get_or c.args.job.now i 0) c.loop-at.at _ c.get.ensures in
      let so_far = c.loop-at.invariant.sums i l in
      let added = c.add_demand.ensures.sums i l in
      omega arith;
}

pub returns-clause-sums : goal.returns-clause-sums
returns-clause-sums c = λ i l.
    let ended : length c.args.demands.now ≤ c.loop-at.at = omega arith in
    let none = ap (sum_by (λ demand. demand_of_job c.args.rows.now demand (get_or c.args.job.now i 0))) (drop_all c.loop-at.at c.args.demands.now ended) in
    let all = c.loop-at.invariant.sums i l in
    omega arith
