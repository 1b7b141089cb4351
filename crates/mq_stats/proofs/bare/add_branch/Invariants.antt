use Rattle.std.proofs.Common.{ℕ, ◌≡◌, ◌+◌, ◌<◌, drop, get_or, length, sum_by}
use Rattle.mq_core.specs.Handling.{demand_of_job}
use Rattle.mq_stats.proofs.bare.add_branch.Given as goal

-- each time so far, with what is left, is all
abbrev pub invariant-loop-at : goal.invariant-loop-at
invariant-loop-at l = record {
  even : length l.times ≡ length l.job;
  sums : (i : ℕ) → i < length l.job → get_or l.times i 0 + sum_by (λ demand. demand_of_job l.rows demand (get_or l.job i 0)) (drop l.at l.demands) ≡ get_or l.initial.times i 0 + sum_by (λ demand. demand_of_job l.rows demand (get_or l.job i 0)) l.demands;
}
