-- The model of a number is read, and declares the network that was drawn.
use Rattle.std.proofs.Common.{◌≡◌, subst, ℕ, None}
use Rattle.mq_core.specs.declared.model.Network.{Network}
use Rattle.mq_graph.specs.Cycle.{CyclesAreLeft}
use Rattle.mq_model.specs.Canonical.{PrintedModelsAreRead}
use Rattle.mq_model.specs.Model.{model_fault}
use Rattle.mq_model.specs.NetworkOf.{network_in}
use Rattle.mq_model.specs.Printed.{printed}
use Rattle.mq_gen.specs.Made.{made_model, made_network}
use Rattle.mq_gen.proofs.PlanMade.{made_plan_of}

abbrev IsRead : Network → Type 0
IsRead net = (model_fault (printed net) ≡ None) × (network_in (printed net) ≡ net)

pub model_read : CyclesAreLeft → PrintedModelsAreRead → (number : ℕ) → (model_fault (made_model number) ≡ None) × (network_in (made_model number) ≡ made_network number)
model_read cycles read number = let made = made_plan_of cycles number in subst IsRead made.1.net (read made.0)
