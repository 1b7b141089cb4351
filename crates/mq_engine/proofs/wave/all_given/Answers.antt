use Rattle.std.proofs.lemmas.Result.{IfOk-weaker}
use Rattle.mq_engine.proofs.wave.all_given.Goals as goal

pub returns-clause-known : goal.returns-clause-known
returns-clause-known c =
    IfOk-weaker c.with_ended-2.result _ _ (λ all is keep plan rows ready crowded gathered served. is keep plan rows ready (c.in-Ok.ensures.given keep plan rows ready served gathered) crowded) c.with_ended-2.ensures.given
