use Rattle.std.proofs.Common.{◌≡◌, ◌+◌, ◌*◌, ◌^◌, ◌≤◌, drop, fold, sum_by}
use Rattle.mq_core.specs.Handling.{demand_of_job}
use Rattle.mq_core.proofs.demands.sum_of.Given as goal

-- the sum so far, with what is left, is all
abbrev pub invariant-loop-at : goal.invariant-loop-at
invariant-loop-at l = record {
  sum : fold (λ a demand. a + demand_of_job l.rows demand l.job) l.sum (drop l.at l.demands) ≡ sum_by (λ demand. demand_of_job l.rows demand l.job) l.demands;
  small : l.sum ≤ l.at * 2 ^ 36;
}
