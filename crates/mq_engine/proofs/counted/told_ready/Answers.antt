use Rattle.std.proofs.Common.{arith}
use Rattle.std.proofs.lemmas.Result.{IfOk-weaker}
use Rattle.mq_engine.proofs.Lists.{some-item}
use Rattle.mq_engine.proofs.counted.told_ready.Goals as goal

pub returns-then-is_empty-clause-some : goal.returns-then-is_empty-clause-some
returns-then-is_empty-clause-some g c = IfOk-weaker c.told_wave.result _ _ (λ told e some. let same = e in omega arith) c.told_wave.ensures.len

pub returns-clause-some : goal.returns-clause-some
returns-clause-some g c some = some-item c.in_ok-sent.sent _ c.if-is_empty.false c.is_empty.ensures.1
