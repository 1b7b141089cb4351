use Rattle.std.proofs.Common.{◌≡◌}
use Rattle.std.specs.Prelude.{IfSome, None}
use Rattle.std.proofs.lemmas.Result.{IfErr-weaker, IfOk-weaker}
use Rattle.mq_model.specs.Model.{model_fault}
use Rattle.mq_model.specs.NetworkOf.{network_in}
use Rattle.mq_top.proofs.Told.{if_read, if_told, model_refused, read_is}
use Rattle.mq_top.proofs.stages.accept_model.Given as Given
use Rattle.mq_top.proofs.stages.accept_model.Goals as goal

-- what was read is what is told
told : (g : Given.Over) (c : goal.After-drop-bytes-2 g) → IfSome (g.F.Files.told c.args.files.now c.args.name.now) (λ bytes. c.deref.result.now ≡ bytes)
told g c = if_told _ _ _ c.in-Ok.ensures.whole (λ bytes e. read_is _ _ _ bytes c.deref.ensures.value c.new-bytes.ensures.items e)

pub returns-clause-accepted : goal.returns-clause-accepted
returns-clause-accepted g c =
    IfOk-weaker c.judge_model.result _ _
    (λ plan h. if_read (g.F.Files.told c.args.files.now c.args.name.now) c.deref.result.now (λ bytes. (model_fault bytes ≡ None) × (plan.net ≡ network_in bytes)) (told g c) h) c.judge_model.ensures.accepted

pub returns-clause-refused : goal.returns-clause-refused
returns-clause-refused g c = IfErr-weaker c.judge_model.result _ _ (λ outcome h. model_refused outcome _ _ (told g c) h) c.judge_model.ensures.refused
