-- The canonical text of a plan reads as the plan again.
use Rattle.std.specs.Prelude.{◌≡◌, None}
use Rattle.mq_core.specs.declared.model.Plan.{Plan}
use Rattle.mq_model.specs.Model.{model_fault}
use Rattle.mq_model.specs.NetworkOf.{network_in}
use Rattle.mq_model.specs.Printed.{printed}

abbrev pub PrintedModelsAreRead : Type 0
PrintedModelsAreRead = (plan : Plan) → (model_fault (printed plan.net) ≡ None) × (network_in (printed plan.net) ≡ plan.net)
