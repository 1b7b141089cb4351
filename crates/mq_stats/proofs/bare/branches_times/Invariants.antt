use Rattle.std.proofs.Common.{ℕ, ◌≡◌, ◌+◌, ◌<◌, drop, get_or, length, sum_by}
use Rattle.std.specs.List.{flat_map}
use Rattle.mq_core.specs.Handling.{demand_of_job}
use Rattle.mq_stats.proofs.bare.branches_times.Given as goal

-- each sum so far, with what is left, is all
abbrev pub invariant-loop-at : goal.invariant-loop-at
invariant-loop-at l = record {
  even : length l.sums.items ≡ length l.job;
  sums : (i : ℕ) → i < length l.job → get_or l.sums.items i 0 + sum_by (λ demand. demand_of_job l.rows demand (get_or l.job i 0)) (flat_map (λ demands. demands) (drop l.at l.branches)) ≡ sum_by (λ demand. demand_of_job l.rows demand (get_or l.job i 0)) (flat_map (λ demands. demands) l.branches);
}
