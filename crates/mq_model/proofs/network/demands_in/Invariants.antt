use Rattle.std.proofs.Common.{◌≡◌, map, take}
use Rattle.mq_model.specs.NetworkOf.{demand_in}
use Rattle.mq_model.proofs.network.demands_in.Given as goal

abbrev pub invariant-loop-demand : goal.invariant-loop-demand
invariant-loop-demand l = l.all ≡ map (demand_in l.columns) (take l.demand-index l.demands)
