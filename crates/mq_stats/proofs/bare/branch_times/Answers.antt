use Rattle.std.proofs.Common.{◌≡◌, ℕ, ◌+◌, ◌^◌, ◌<◌, ◌≤◌, ap, arith, get_or, length, rules, ◌∙◌}
use Rattle.std.proofs.lemmas.List.{get_or-replicate, length-replicate}
use Rattle.mq_stats.proofs.Backs.{asked-times}
use Rattle.mq_stats.proofs.bare.branch_times.Goals as goal

fits : (time sum : ℕ) → time ≡ 0 → sum ≤ 2 ^ 39 → time + sum < 2 ^ 64
fits time sum none small = omega arith

pub add_branch-requires-clause-fits : goal.add_branch-requires-clause-fits
add_branch-requires-clause-fits c = λ i l.
    fits _ _
    (ap (λ xs. get_or xs i 0) (c.as_mut_slice.ensures.value ∙ c.in_ok-times.ensures.items_if_clones_equal (search rules)) ∙ get_or-replicate (length c.args.job.now) i 0 0 l)
    (c.requires.small i l)

pub returns : goal.returns
returns c =
    let zeros = c.in_ok-times.ensures.items_if_clones_equal (search rules) in
    let even = ap length zeros ∙ length-replicate (length c.args.job.now) 0 in
    asked-times _ c.args.job.now c.in_ok-times.times.items _ c.add_branch.new.times c.in_ok-times.times.len zeros c.as_mut_slice.ensures.value (omega (arith, c.add_branch.ensures.even, c.as_mut_slice.ensures.len, even)) c.add_branch.ensures.even c.add_branch.ensures.sums
