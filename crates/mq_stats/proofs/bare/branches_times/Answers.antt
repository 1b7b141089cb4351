use Rattle.std.proofs.Common.{◌≡◌, ◌∙◌, ap, arith, get_or, length}
use Rattle.std.specs.List.{flat_map}
use Rattle.mq_core.specs.Handling.{demand_of_job}
use Rattle.mq_core.proofs.lemmas.Demands.{demands-most, told-at}
use Rattle.mq_stats.proofs.bare.branches_times.Goals as goal
use Rattle.mq_base.proofs.lemmas.Lists.{written-back}
use Rattle.mq_base.proofs.lemmas.FlatMaps.{sum-part}

pub add_branch-requires-clause-told : goal.add_branch-requires-clause-told
add_branch-requires-clause-told c = λ i l. told-at c.args.rows.now c.args.branches.now (get_or c.args.job.now i 0) c.loop-at.at _ c.get.ensures (c.requires.told i l)

pub add_branch-requires-clause-fits : goal.add_branch-requires-clause-fits
add_branch-requires-clause-fits c = λ i l.
    let job = get_or c.args.job.now i 0 in
    let had = ap (λ xs. get_or xs i 0) c.as_mut_slice.ensures.value in
    let next = sum-part (λ demand. demand_of_job c.args.rows.now demand job) c.args.branches.now c.loop-at.at _ c.get.ensures in
    let so_far = c.loop-at.invariant.sums i l in
    let most = demands-most c.args.rows.now (flat_map (λ demands. demands) c.args.branches.now) job (c.requires.told i l) in
    omega arith

pub loop-at-preserved : goal.loop-at-preserved
loop-at-preserved c =
    let had = ap length c.as_mut_slice.ensures.value in
    let long : length c.add_branch.new.times ≡ c.loop-at.sums.len = omega (arith, c.add_branch.ensures.even, c.as_mut_slice.ensures.len, c.loop-at.invariant.even) in
    let is = written-back c.add_branch.new.times c.loop-at.sums.items c.loop-at.sums.len long in
    record {
      even = ap length is ∙ c.add_branch.ensures.even;
      sums = λ i l.
          let job = get_or c.args.job.now i 0 in
          let now = ap (λ xs. get_or xs i 0) is in
          let old = ap (λ xs. get_or xs i 0) c.as_mut_slice.ensures.value in
          let next = sum-part (λ demand. demand_of_job c.args.rows.now demand job) c.args.branches.now c.loop-at.at _ c.get.ensures in
          let so_far = c.loop-at.invariant.sums i l in
          let added = c.add_branch.ensures.sums i l in
          omega arith;
    }
