use Rattle.std.proofs.Common.{◌≤◌, ap, arith}
use Rattle.mq_stats.specs.Percentiles.{hundredths}
use Rattle.mq_stats.specs.Tables.{own_counts}
use Rattle.mq_stats.proofs.Tables.{own-are-all}
use Rattle.mq_stats.proofs.wait_counts.counted_percentiles.Goals as goal

pub returns-clause-counts : goal.returns-clause-counts
returns-clause-counts c = λ waits counts.
    let own = own-are-all waits c.args.counts.now.counts (record { counts = λ wait l. counts.each wait }) counts.some counts.own in
    let same = ap own_counts c.as_slice.ensures in
    let many = counts.many in
    let enough : hundredths 99 c.args.counts.now.many ≤ own_counts c.as_slice.result.now = omega arith in
    c.counted.ensures.told.1 enough
