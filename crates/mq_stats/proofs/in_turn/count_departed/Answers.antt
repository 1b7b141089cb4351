use Rattle.std.proofs.Common.{◌≡◌, ◌≤◌, ◌∙◌, ℕ, List, ap, arith, length, subst, sym}
use Rattle.std.specs.Prelude.{IfSome, count_by}
use Rattle.std.specs.List.{AllByRecursion as Each}
use Rattle.mq_core.specs.Results.{is_departed, is_held, is_lost}
use Rattle.mq_stats.specs.WaitCounts.{AreWaitCounts}
use Rattle.mq_stats.specs.Waits.{departed_waits_in}
use Rattle.mq_stats.proofs.Held.{fates-counted}
use Rattle.mq_stats.proofs.InTurn.{none-stays}
use Rattle.mq_stats.proofs.Waited.{departed-most}
use Rattle.mq_stats.proofs.in_turn.count_departed.Goals as goal
use Rattle.mq_base.proofs.lemmas.Lists.{written-back}

pub counts_of-requires-clause-longest : goal.counts_of-requires-clause-longest
counts_of-requires-clause-longest c =
    let waiting = c.args.waiting.now in
    let told = c.put_departed-told.ensures in
    let longest = c.put_departed-told.result.longest in
    let had = ap length c.as_mut_slice.ensures.value in
    let long : length c.put_departed-told.new.waits ≡ c.in_ok-waits.waits.len = omega (arith, told.room, c.as_mut_slice.ensures.len, c.in_ok-waits.ensures.even) in
    let whole : c.as_slice-2.result.now ≡ departed_waits_in waiting = c.as_slice-2.ensures.value ∙ (written-back c.put_departed-told.new.waits c.in_ok-waits.waits.items c.in_ok-waits.waits.len long ∙ told.waits) in
    subst (Each (λ wait. wait ≤ longest)) (sym whole) (departed-most waiting.rows.now waiting.kind.now waiting.job.now waiting.arrive.now waiting.fate.now longest told.longest)

pub returns : goal.returns
returns c =
    let waiting = c.args.waiting.now in
    let told = c.put_departed-told.ensures in
    let had = ap length c.as_mut_slice.ensures.value in
    let long : length c.put_departed-told.new.waits ≡ c.in_ok-waits.waits.len = omega (arith, told.room, c.as_mut_slice.ensures.len, c.in_ok-waits.ensures.even) in
    let whole : c.as_slice-2.result.now ≡ departed_waits_in waiting = c.as_slice-2.ensures.value ∙ (written-back c.put_departed-told.new.waits c.in_ok-waits.waits.items c.in_ok-waits.waits.len long ∙ told.waits) in
    let lost = ap (count_by is_lost) c.requires.fates ∙ (none-stays c.args.departs.now).0 in
    let held = ap (count_by is_held) c.requires.fates ∙ (none-stays c.args.departs.now).1 in
    let all = fates-counted waiting.fate.now in
    let left : length waiting.job.now ≡ count_by is_departed waiting.fate.now = omega (arith, c.requires.visits.fates) in
    λ found span is. record {
      totals = λ k. record {
        came = length waiting.job.now;
        left = left k;
        lost = sym lost k;
        held = sym held k;
        wait = told.wait k;
        longest = told.longest k;
        busy = c.in_ok-busy.ensures.busy k;
        area = told.stay span k;
        peak = is k;
      };
      small = record {
        few = c.requires.visits.few;
        left = omega arith;
        lost = omega arith;
        held = omega arith;
        wait = told.small;
        busy = c.in_ok-busy.ensures.small;
        area = told.small_stay;
      };
      told = c.in_ok-counts.ensures.told;
      waits = subst (λ (waits : List ℕ). IfSome c.in_ok-counts.counts (AreWaitCounts waits)) whole c.in_ok-counts.ensures.counts;
    }
