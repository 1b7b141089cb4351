use Rattle.std.proofs.Common.{◌≡◌, drop}
use Rattle.std.specs.List.{flat_map}
use Rattle.mq_model.specs.Said.{columns_after, mentions_of_demand}
use Rattle.mq_model.proofs.front.add_of_demands.Given as goal

abbrev pub invariant-loop-demand : goal.invariant-loop-demand
invariant-loop-demand l = columns_after l.columns (flat_map mentions_of_demand (drop l.demand-index l.demands)) ≡ columns_after l.initial.columns (flat_map mentions_of_demand l.demands)
