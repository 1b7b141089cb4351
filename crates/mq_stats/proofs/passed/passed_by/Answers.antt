use Rattle.std.proofs.Common.{arith}
use Rattle.mq_stats.proofs.Passing.{not-passed, passed-one}
use Rattle.mq_stats.proofs.passed.passed_by.Goals as goal

pub returns-then-times-index : goal.returns-then-times-index
returns-then-times-index c =
    let most = not-passed c.args.time c.args.times.now c.loop-index.index c.requires.order (omega arith) c.if-times-index.true in
    omega arith

pub loop-index-preserved : goal.loop-index-preserved
loop-index-preserved c =
    let more = passed-one c.args.time c.args.times.now c.loop-index.index c.requires.order (omega arith) c.if-times-index.false in
    omega arith
