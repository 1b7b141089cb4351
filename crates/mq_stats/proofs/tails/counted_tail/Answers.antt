use Rattle.std.proofs.Common.{◌≡◌, ◌-◌, ◌∙◌, arith, length, refl, subst, sym}
use Rattle.mq_stats.specs.Tables.{IsTableOf}
use Rattle.mq_stats.proofs.Tables.{counts-under}
use Rattle.mq_stats.proofs.tails.counted_tail.Goals as goal
use Rattle.mq_base.proofs.lemmas.Lists.{written-back}

pub returns : goal.returns
returns c =
    let waits = c.args.waits.now in
    let new = c.count_waits.new.table in
    let is : c.as_slice.result.now ≡ new = c.as_slice.ensures.value ∙ written-back new _ _ (c.count_waits.ensures.room ∙ c.as_mut_slice.ensures.len) in
    c.counted-tail.ensures.percentiles waits refl
    (subst (IsTableOf waits) (sym is)
    (record { counts = λ wait l. c.count_waits.ensures.counts wait ∙ counts-under (length c.as_mut_slice.result.now - 1) wait waits (omega (arith, c.count_waits.ensures.room)) }))
