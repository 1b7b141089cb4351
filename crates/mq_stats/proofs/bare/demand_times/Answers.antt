use Rattle.std.proofs.Common.{◌∙◌, ap, arith, length, rules}
use Rattle.std.proofs.lemmas.List.{length-replicate}
use Rattle.mq_stats.proofs.Backs.{asked-times}
use Rattle.mq_stats.proofs.bare.demand_times.Goals as goal

pub returns : goal.returns
returns c =
    let zeros = c.in_ok-times.ensures.items_if_clones_equal (search rules) in
    let even = ap length zeros ∙ length-replicate (length c.args.job.now) 0 in
    asked-times _ c.args.job.now c.in_ok-times.times.items _ c.add_demand.new.times c.in_ok-times.times.len zeros c.as_mut_slice.ensures.value (omega (arith, c.add_demand.ensures.even, c.as_mut_slice.ensures.len, even)) c.add_demand.ensures.even c.add_demand.ensures.sums
