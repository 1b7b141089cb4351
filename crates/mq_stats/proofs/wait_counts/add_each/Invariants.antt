use Rattle.std.proofs.Common.{ℕ, ◌≡◌, ◌+◌, ◌<◌, ◌≤◌, get_or, length}
use Rattle.mq_stats.proofs.wait_counts.add_each.Given as goal

-- the counts before the index are added up, and the others are as they were
abbrev pub invariant-loop-at : goal.invariant-loop-at
invariant-loop-at l = record {
  room : length l.counts ≡ length l.initial.counts;
  done : (i : ℕ) → i < l.at → get_or l.counts i 0 ≡ get_or l.initial.counts i 0 + get_or l.more i 0;
  left : (i : ℕ) → l.at ≤ i → get_or l.counts i 0 ≡ get_or l.initial.counts i 0;
}
