use Rattle.std.proofs.Common.{arith}
use Rattle.std.proofs.lemmas.Grind.{common_steps}
use Rattle.std.proofs.lemmas.List.{take_rest}
use Rattle.mq_outside.proofs.Puts.{put_more, put_sure}
use Rattle.mq_outside.proofs.write.put_all.Goals as goal

pub loop-rest-preserved : goal.loop-rest-preserved
loop-rest-preserved g c =
    let put = c.in_ok-count.ensures in
    put_more _ _ _ _ _ _ _ _ _ _ _ _ _ c.loop-rest.invariant (grind (arith, common_steps, c.loop-rest-test.ensures)) put.at_most put.taken put.spent put.quiet (take_rest c.loop-rest.rest.now c.in_ok-count.count)

pub returns-in_err-count-clause-sure : goal.returns-in_err-count-clause-sure
returns-in_err-count-clause-sure g c =
    put_sure _ _ _ _ _ _ _ _ _ c.loop-rest.invariant (grind (arith, common_steps, c.loop-rest-test.ensures)) c.in_err-count.ensures.sure
