use Rattle.std.proofs.Common.{subst}
use Rattle.std.proofs.lemmas.Result.{IfOk-weaker}
use Rattle.mq_exits.specs.Results.{IsResultOf}
use Rattle.mq_exits.specs.Turns.{result_given}
use Rattle.mq_exits.specs.declared.turns.Given.{Given}
use Rattle.mq_engine.specs.Counting.{IsToldOf}
use Rattle.mq_engine.proofs.told.told_of.Goals as goal

pub returns-in-Ended-clause-told : goal.returns-in-Ended-clause-told
returns-in-Ended-clause-told c plan rows form ready same known told =
    c.told_ended.ensures.told plan rows form ready (subst (λ (given : Given). IsResultOf plan rows ready (result_given given)) c.in-Ended.is known)
    (subst (λ (given : Given). IsToldOf plan rows form (result_given given).number (result_given given).ending c.args.count) c.in-Ended.is told)

pub returns-in-InTurn-clause-told : goal.returns-in-InTurn-clause-told
returns-in-InTurn-clause-told c =
    IfOk-weaker c.told_in_turn.result _ _
    (λ node is plan rows form ready same known told. is plan rows form ready same (subst (λ (given : Given). IsResultOf plan rows ready (result_given given)) c.in-InTurn.is known)
    (subst (λ (given : Given). IsToldOf plan rows form (result_given given).number (result_given given).ending c.args.count) c.in-InTurn.is told)) c.told_in_turn.ensures.told
