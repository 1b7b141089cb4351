use Rattle.std.proofs.Common.{ℕ, ◌≡◌, ◌<◌, drop, fold, get_or, length, max}
use Rattle.mq_stats.proofs.Asked.{longest_of}
use Rattle.mq_stats.proofs.bare.longest_times.Given as goal

-- the greatest so far, with what is left, is the greatest of all
abbrev pub invariant-loop-at : goal.invariant-loop-at
invariant-loop-at l = record {
  even : length l.longest.items ≡ length l.job;
  greatest : (i : ℕ) → i < length l.job → fold max (get_or l.longest.items i 0) (longest_of l.rows (drop l.at l.branches) (get_or l.job i 0)) ≡ fold max 0 (longest_of l.rows l.branches (get_or l.job i 0));
}
