use Rattle.std.proofs.Common.{◌≡◌, map, take}
use Rattle.mq_model.specs.NetworkOf.{demand_in}
use Rattle.mq_model.proofs.network.branches_in.Given as goal

abbrev pub invariant-loop-demands : goal.invariant-loop-demands
invariant-loop-demands l = l.all ≡ map (map (demand_in l.columns)) (take l.demands-index l.branches)
