use Rattle.std.proofs.Common.{◌≡◌, drop, fold, map, max, sum_by}
use Rattle.mq_core.specs.Handling.{demand_of_job}
use Rattle.mq_core.proofs.demands.longest_of.Given as goal

-- the greatest so far, with what is left, is the greatest of all
abbrev pub invariant-loop-at : goal.invariant-loop-at
invariant-loop-at l =
    fold max l.longest (map (λ demands. sum_by (λ demand. demand_of_job l.rows demand l.job) demands) (drop l.at l.branches)) ≡ fold max 0 (map (λ demands. sum_by (λ demand. demand_of_job l.rows demand l.job) demands) l.branches)
