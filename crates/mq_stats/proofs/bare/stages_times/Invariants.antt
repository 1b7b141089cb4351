use Rattle.std.proofs.Common.{ℕ, ◌≡◌, ◌+◌, ◌<◌, drop, get_or, length}
use Rattle.mq_core.specs.Handling.{demand_of_stages}
use Rattle.mq_stats.proofs.bare.stages_times.Given as goal

-- each time so far, with what is left, is all
abbrev pub invariant-loop-at : goal.invariant-loop-at
invariant-loop-at l = record {
  even : length l.times.items ≡ length l.job;
  sums : (i : ℕ) → i < length l.job → get_or l.times.items i 0 + demand_of_stages l.rows (drop l.at l.stages) (get_or l.job i 0) ≡ demand_of_stages l.rows l.stages (get_or l.job i 0);
}
