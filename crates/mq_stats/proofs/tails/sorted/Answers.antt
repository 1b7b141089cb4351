use Rattle.std.proofs.Common.{◌≡◌, arith, length, ap, ◌∙◌}
use Rattle.std.proofs.lemmas.List.Sorted.{IsNonDecreasingBy-from_sort}
use Rattle.mq_stats.proofs.Least.{percentile-is}
use Rattle.mq_stats.specs.Percentiles.{hundredths}
use Rattle.mq_stats.proofs.tails.sorted.Goals as goal

pub returns : goal.returns
returns c =
    let waits = c.args.waits.now in
    let sorted = c.sort_unstable.new.self in
    let moved = c.sort_unstable.ensures.permutation in
    let up = IsNonDecreasingBy-from_sort (λ x. x) sorted c.sort_unstable.ensures.sorted in
    let same : length sorted ≡ length waits = c.sort_unstable.ensures.len in
    let half = c.hundredths.ensures in
    let most = c.hundredths-2.ensures in
    let nearly = c.hundredths-3.ensures in
    record {
      p50 = percentile-is 50 waits sorted _ _ moved up (half ∙ ap (hundredths 50) same) (omega arith) (λ l. omega arith) c.last_of.ensures.none c.last_of.ensures.some;
      p90 = percentile-is 90 waits sorted _ _ moved up (most ∙ ap (hundredths 90) same) (omega arith) (λ l. omega arith) c.last_of-2.ensures.none c.last_of-2.ensures.some;
      p99 = percentile-is 99 waits sorted _ _ moved up (nearly ∙ ap (hundredths 99) same) (omega arith) (λ l. omega arith) c.last_of-3.ensures.none c.last_of-3.ensures.some;
    }
