use Rattle.std.proofs.Common.{◌≡◌, drop}
use Rattle.mq_stats.specs.Lasts.{last_left, last_time}
use Rattle.mq_stats.proofs.spans.last_at.Given as goal

-- the greatest so far, with what is left, is the greatest of all
abbrev pub invariant-loop-stream : goal.invariant-loop-stream
invariant-loop-stream l = last_left l.latest (drop l.stream-index l.stream-items) ≡ last_left (last_time l.arrive) l.stream-items
