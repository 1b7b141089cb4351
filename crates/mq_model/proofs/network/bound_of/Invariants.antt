use Rattle.std.proofs.Common.{◌≡◌, drop}
use Rattle.mq_model.specs.NetworkOf.{bound_of}
use Rattle.mq_model.proofs.network.bound_of.Given as goal

abbrev pub invariant-loop-said : goal.invariant-loop-said
invariant-loop-said l = bound_of l.saids ≡ bound_of (drop l.said-index l.saids)
