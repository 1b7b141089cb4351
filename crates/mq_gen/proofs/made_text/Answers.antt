use Rattle.std.proofs.Common.{◌≡◌, subst}
use Rattle.std.specs.Prelude.{IfOk}
use Rattle.mq_core.specs.declared.model.Network.{Network}
use Rattle.mq_model.specs.Printed.{printed}
use Rattle.mq_gen.proofs.made_text.Goals as goal

pub returns-clause-text : goal.returns-clause-text
returns-clause-text c = subst (λ (net : Network). IfOk c.print_model-text.result (λ text. text ≡ printed net)) c.in_ok-plan.ensures.net c.print_model-text.ensures
