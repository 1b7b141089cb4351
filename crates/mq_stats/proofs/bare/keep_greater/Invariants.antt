use Rattle.std.proofs.Common.{ℕ, ◌≡◌, ◌<◌, ◌≤◌, get_or, length, max}
use Rattle.mq_stats.proofs.bare.keep_greater.Given as goal

-- the greater are kept before the index, and the others are as they were
abbrev pub invariant-loop-at : goal.invariant-loop-at
invariant-loop-at l = record {
  room : length l.times ≡ length l.initial.times;
  done : (i : ℕ) → i < l.at → get_or l.times i 0 ≡ max (get_or l.initial.times i 0) (get_or l.others i 0);
  left : (i : ℕ) → l.at ≤ i → get_or l.times i 0 ≡ get_or l.initial.times i 0;
}
