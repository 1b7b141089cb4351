use Rattle.std.proofs.Common.{◌≡◌, ℕ, ◌<◌, ◌≤◌, get_or}
use Rattle.mq_kept.proofs.sources.least_time.Given as goal

-- no row of the source so far is earlier
abbrev pub invariant-loop-at : goal.invariant-loop-at
invariant-loop-at l = (k : ℕ) → k < l.at → get_or l.source k 0 ≡ l.number → l.least ≤ get_or l.time k 0
