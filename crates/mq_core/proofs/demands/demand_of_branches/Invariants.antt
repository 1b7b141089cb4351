use Rattle.std.proofs.Common.{◌≡◌, ◌+◌, drop, sum_by}
use Rattle.std.specs.List.{flat_map}
use Rattle.mq_core.specs.Handling.{demand_of_job}
use Rattle.mq_core.proofs.demands.demand_of_branches.Given as goal

-- the sum so far and what is left are all
abbrev pub invariant-loop-at : goal.invariant-loop-at
invariant-loop-at l = l.sum + sum_by (λ demand. demand_of_job l.rows demand l.job) (flat_map (λ demands. demands) (drop l.at l.branches)) ≡ sum_by (λ demand. demand_of_job l.rows demand l.job) (flat_map (λ demands. demands) l.branches)
