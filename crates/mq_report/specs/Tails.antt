-- The percentiles of waits in a report.
use Rattle.mq_report.specs.Text.{Tail}
use Rattle.mq_stats.specs.declared.tails.Percentiles.{Percentiles}

-- the percentiles, as numbers
abbrev pub tail_from : Percentiles → Tail
tail_from tail = record { p50 = tail.p50; p90 = tail.p90; p99 = tail.p99 }
