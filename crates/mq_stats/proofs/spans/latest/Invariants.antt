use Rattle.std.proofs.Common.{◌≡◌, drop, max}
use Rattle.std.specs.Prelude.{fold}
use Rattle.mq_stats.proofs.spans.latest.Given as goal

-- the greatest so far, with what is left, is the greatest of all
abbrev pub invariant-loop-time : goal.invariant-loop-time
invariant-loop-time l = fold max l.latest (drop l.time-index l.times) ≡ fold max 0 l.times
