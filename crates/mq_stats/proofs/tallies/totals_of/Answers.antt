use Rattle.std.proofs.Common.{◌≡◌, ◌-◌, length, count_by, arith}
use Rattle.mq_core.specs.Results.{is_departed}
use Rattle.mq_stats.proofs.Held.{fates-counted}
use Rattle.mq_stats.proofs.tallies.totals_of.Goals as goal

pub overflow_sub-result-2 : goal.overflow_sub-result-2
overflow_sub-result-2 c =
    let all = fates-counted c.args.waiting.now.fate.now in
    let stays = c.stays_of-stays.ensures in
    let fates = c.requires.visits.fates in
    omega arith

pub returns-clause-totals : goal.returns-clause-totals
returns-clause-totals c =
    let waiting = c.args.waiting.now in
    let all = fates-counted waiting.fate.now in
    let stays = c.stays_of-stays.ensures in
    let sums = c.requires.sums in
    let fates = c.requires.visits.fates in
    let left : length waiting.job.now - c.stays_of-stays.result.lost - c.stays_of-stays.result.held ≡ count_by is_departed waiting.fate.now = omega arith in
    λ found is k. record {
      came = length waiting.job.now;
      left = left k;
      lost = stays.lost k;
      held = stays.held k;
      wait = sums.wait k;
      longest = sums.longest k;
      busy = sums.busy k;
      area = c.area_of.ensures.sum k;
      peak = is k;
    }
