use Rattle.std.proofs.Common.{◌≡◌, ◌∙◌, ap, arith, get_or, length}
use Rattle.mq_stats.proofs.Asked.{stage-at, stage-told, stages-most}
use Rattle.mq_stats.proofs.bare.stages_times.Goals as goal
use Rattle.mq_base.proofs.lemmas.Lists.{written-back}

pub add_demand-requires-clause-told : goal.add_demand-requires-clause-told
add_demand-requires-clause-told c = λ i l. stage-told c.args.rows.now c.args.stages.now (get_or c.args.job.now i 0) c.loop-at.at _ c.get.ensures (c.requires.told i l).each

pub add_demand-requires-clause-fits : goal.add_demand-requires-clause-fits
add_demand-requires-clause-fits c = λ i l.
    let job = get_or c.args.job.now i 0 in
    let had = ap (λ xs. get_or xs i 0) c.as_mut_slice.ensures.value in
    let next = stage-at c.args.rows.now c.args.stages.now job c.loop-at.at _ c.get.ensures in
    let so_far = c.loop-at.invariant.sums i l in
    let most = stages-most c.args.rows.now c.args.stages.now job (c.requires.told i l) in
    omega arith

pub loop-at-preserved : goal.loop-at-preserved
loop-at-preserved c =
    let had = ap length c.as_mut_slice.ensures.value in
    let long : length c.add_demand.new.times ≡ c.loop-at.times.len = omega (arith, c.add_demand.ensures.even, c.as_mut_slice.ensures.len, c.loop-at.invariant.even) in
    let is = written-back c.add_demand.new.times c.loop-at.times.items c.loop-at.times.len long in
    record {
      even = ap length is ∙ c.add_demand.ensures.even;
      sums = λ i l.
          let job = get_or c.args.job.now i 0 in
          let now = ap (λ xs. get_or xs i 0) is in
          let old = ap (λ xs. get_or xs i 0) c.as_mut_slice.ensures.value in
          let next = stage-at c.args.rows.now c.args.stages.now job c.loop-at.at _ c.get.ensures in
          let so_far = c.loop-at.invariant.sums i l in
          let added = c.add_demand.ensures.sums i l in
          omega arith;
    }
