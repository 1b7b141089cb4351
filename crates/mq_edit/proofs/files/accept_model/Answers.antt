use Rattle.std.proofs.Common.{◌≡◌, ◌∙◌}
use Rattle.std.specs.Prelude.{None}
use Rattle.std.proofs.lemmas.Result.{IfOk-weaker}
use Rattle.mq_model.specs.Model.{model_fault}
use Rattle.mq_model.specs.NetworkOf.{network_in}
use Rattle.mq_edit.proofs.FileFacts.{if_read, if_told}
use Rattle.mq_edit.proofs.files.accept_model.Goals as goal

pub returns-in-Ok-clause-accepted : goal.returns-in-Ok-clause-accepted
returns-in-Ok-clause-accepted g c =
    let told = if_told _ _ (λ bytes. c.deref.result.now ≡ bytes) c.in-Ok.ensures.told (λ bytes e. c.deref.ensures.value ∙ e) in
    IfOk-weaker c.judge_model.result _ _
    (λ plan h. if_read (g.F.Files.told c.args.files.now c.args.name.now) c.deref.result.now (λ bytes. (model_fault bytes ≡ None) × (plan.net ≡ network_in bytes)) told h) c.judge_model.ensures.accepted
