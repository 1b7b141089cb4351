use Rattle.std.proofs.Common.{◌≡◌, drop, max}
use Rattle.std.specs.Prelude.{fold, map}
use Rattle.mq_core.specs.Sequences.{time_of_fate}
use Rattle.mq_stats.proofs.spans.latest_departure.Given as goal

-- the greatest so far, with what is left, is the greatest of all
abbrev pub invariant-loop-at : goal.invariant-loop-at
invariant-loop-at l = fold max l.latest (map time_of_fate (drop l.at l.fates)) ≡ fold max 0 (map time_of_fate l.fates)
