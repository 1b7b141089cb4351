use Rattle.std.proofs.Common.{ℕ, List, ◌∙◌, ap, arith, length, length-append, subst}
use Rattle.std.specs.Prelude.{IfSome}
use Rattle.mq_base.proofs.lemmas.Between.{length-between}
use Rattle.mq_stats.specs.Numbers.{added_totals, visits_between}
use Rattle.mq_stats.specs.Percentiles.{waits_at}
use Rattle.mq_stats.specs.WaitCounts.{AreWaitCounts}
use Rattle.mq_stats.proofs.Joins.{totals-join}
use Rattle.mq_stats.proofs.WaitsJoin.{waits-join}
use Rattle.mq_stats.proofs.blocks.blocks_added.Goals as goal

pub waits_added-requires : goal.waits_added-requires
waits_added-requires c =
    let n = c.requires in
    let before = waits_at n.rows n.kind (visits_between n.from n.middle n.visits) in
    let after = waits_at n.rows n.kind (visits_between n.middle n.to n.visits) in
    let joined = ap (λ (waits : List ℕ). length waits) (waits-join.join n.rows n.kind n.visits n.sound n.from n.middle n.to n.order n.next n.within) in
    let both = length-append before after in
    let few = waits-join.few n.rows n.kind (visits_between n.from n.to n.visits) in
    let came = length-between n.visits.job n.from n.to (omega (arith, n.order, n.next)) n.within in
    (before, after, omega (arith, n.sound.few, n.within), n.first.waits, n.second.waits)

pub returns-clause-told : goal.returns-clause-told
returns-clause-told c = c.in_ok-waits.ensures.told

pub returns-clause-block : goal.returns-clause-block
returns-clause-block c = λ blocks.
    let longest = ap (λ totals. totals.longest) c.totals_added-both.ensures.totals in
    let some = c.in_ok-waits.ensures.told in
    record {
      totals =
          c.totals_added-both.ensures.totals
          ∙ ((λ k. added_totals (blocks.first.totals k) (blocks.second.totals k))
          ∙ totals-join blocks.rows blocks.kind blocks.visits blocks.sound blocks.span blocks.from blocks.middle blocks.to blocks.order blocks.next blocks.within);
      small = c.totals_added-both.ensures.small;
      told = (
        λ both. let first = blocks.first.told.0 (some.0 both).0 in let second = blocks.second.told.0 (some.0 both).1 in omega arith,
        λ within. some.1 (blocks.first.told.1 (omega arith), blocks.second.told.1 (omega arith)),
      );
      waits =
          subst (λ (waits : List ℕ). IfSome c.in_ok-waits.waits (AreWaitCounts waits))
          (waits-join.join blocks.rows blocks.kind blocks.visits blocks.sound blocks.from blocks.middle blocks.to blocks.order blocks.next blocks.within)
          (c.in_ok-waits.ensures.counts _ _ blocks.first.waits blocks.second.waits);
    }
