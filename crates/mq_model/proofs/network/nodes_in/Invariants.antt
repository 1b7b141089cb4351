use Rattle.std.proofs.Common.{◌≡◌, take}
use Rattle.std.specs.List.{flat_map}
use Rattle.mq_model.specs.NetworkOf.{nodes_in}
use Rattle.mq_model.proofs.network.nodes_in.Given as goal

abbrev pub invariant-loop-said : goal.invariant-loop-said
invariant-loop-said l = l.nodes ≡ flat_map (nodes_in l.names l.columns) (take l.said-index l.saids)
