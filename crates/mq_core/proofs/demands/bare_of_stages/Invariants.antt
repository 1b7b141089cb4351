use Rattle.std.proofs.Common.{◌≡◌, ◌+◌, drop}
use Rattle.mq_core.specs.Handling.{demand_of_stages}
use Rattle.mq_core.proofs.demands.bare_of_stages.Given as goal

abbrev pub invariant-loop-at : goal.invariant-loop-at
invariant-loop-at l = l.total + demand_of_stages l.rows (drop l.at l.stages) l.job ≡ demand_of_stages l.rows l.stages l.job
