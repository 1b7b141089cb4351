use Rattle.std.proofs.Common.{ℕ, ◌≡◌, ◌+◌, ◌<◌, ◌≤◌, get_or, length}
use Rattle.mq_stats.proofs.bare.add_column.Given as goal

-- the times before the index are added to, and the others are as they were
abbrev pub invariant-loop-at : goal.invariant-loop-at
invariant-loop-at l = record {
  room : length l.times ≡ length l.initial.times;
  done : (i : ℕ) → i < l.at → get_or l.times i 0 ≡ get_or l.initial.times i 0 + get_or l.column (get_or l.job i 0) 0;
  left : (i : ℕ) → l.at ≤ i → get_or l.times i 0 ≡ get_or l.initial.times i 0;
}
