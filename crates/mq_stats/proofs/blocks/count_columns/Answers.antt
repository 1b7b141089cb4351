use Rattle.std.proofs.Common.{◌≡◌, ◌≤◌, ℕ, List, ap, sym, subst, ◌∙◌}
use Rattle.std.specs.Prelude.{◌↔◌, IfSome, IsSome}
use Rattle.mq_stats.specs.WaitCounts.{AreWaitCounts}
use Rattle.mq_stats.proofs.blocks.count_columns.Goals as goal

pub returns : goal.returns
returns c found is =
    let told = c.waits_from-told.ensures in
    let longest : c.waits_from-told.result.longest ≡ c.totals_of.result.longest = told.longest ∙ sym (ap (λ totals. totals.longest) (c.totals_of.ensures.totals found is)) in
    record {
      totals = c.totals_of.ensures.totals found is;
      small = c.totals_of.ensures.small;
      told = subst (λ (n : ℕ). IsSome c.in_ok-waits.waits ↔ (n ≤ c.args.most)) longest c.in_ok-waits.ensures.told;
      waits = subst (λ (waits : List ℕ). IfSome c.in_ok-waits.waits (AreWaitCounts waits)) (c.as_slice-2.ensures ∙ told.waits) c.in_ok-waits.ensures.counts;
    }
