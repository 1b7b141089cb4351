use Rattle.std.proofs.Common.{◌≡◌, ◌∙◌, ap, arith, get_or, length, max}
use Rattle.mq_stats.proofs.bare.longest_times.Goals as goal
use Rattle.mq_base.proofs.lemmas.Lists.{written-back}
use Rattle.mq_core.proofs.lemmas.Demands.{demands-most, longest-next, told-at}

pub branch_times-requires-clause-told : goal.branch_times-requires-clause-told
branch_times-requires-clause-told c = λ i l. told-at c.args.rows.now c.args.branches.now (get_or c.args.job.now i 0) c.loop-at.at _ c.get.ensures (c.requires.told i l)

pub branch_times-requires-clause-small : goal.branch_times-requires-clause-small
branch_times-requires-clause-small c = λ i l.
    let job = get_or c.args.job.now i 0 in
    let most = demands-most c.args.rows.now c.get.result.now job (told-at c.args.rows.now c.args.branches.now job c.loop-at.at _ c.get.ensures (c.requires.told i l)) in
    omega arith

pub loop-at-preserved : goal.loop-at-preserved
loop-at-preserved c =
    let had = ap length c.as_mut_slice.ensures.value in
    let long : length c.keep_greater.new.times ≡ c.loop-at.longest.len = omega (arith, c.keep_greater.ensures.even, c.as_mut_slice.ensures.len) in
    let is = written-back c.keep_greater.new.times c.loop-at.longest.items c.loop-at.longest.len long in
    record {
      even = ap length is ∙ omega (arith, c.keep_greater.ensures.even, c.loop-at.invariant.even);
      greatest = λ i l.
          longest-next c.args.rows.now c.args.branches.now (get_or c.args.job.now i 0) (get_or c.loop-at.longest.items i 0) _ (get_or c.in_ok-times.times.items i 0) _ c.loop-at.at _ c.get.ensures
          (ap (λ xs. get_or xs i 0) is
          ∙ (c.keep_greater.ensures.each i (omega (arith, had, c.loop-at.invariant.even))
          ∙ (λ k. max (get_or (c.as_mut_slice.ensures.value k) i 0) (get_or (c.as_slice.ensures.value k) i 0))))
          (c.in_ok-times.ensures.each i l) (c.loop-at.invariant.greatest i l);
    }
