use Rattle.std.proofs.Common.{◌+◌, ◌-◌, ◌/◌, arith}
use Rattle.mq_stats.proofs.Passing.{not-passed, passed-one}
use Rattle.mq_stats.proofs.passed.passed_between.Goals as goal

pub loop-least-preserved-then-times-middle : goal.loop-least-preserved-then-times-middle
loop-least-preserved-then-times-middle c =
    let middle = c.loop-least.least + (c.loop-least.most - c.loop-least.least) / 2 in
    let more = passed-one c.args.time c.args.times.now middle c.requires.order (omega arith) c.if-times-middle.true in
    record { least = omega arith; most = omega arith; within = omega arith }

pub loop-least-preserved : goal.loop-least-preserved
loop-least-preserved c =
    let middle = c.loop-least.least + (c.loop-least.most - c.loop-least.least) / 2 in
    let less = not-passed c.args.time c.args.times.now middle c.requires.order (omega arith) c.if-times-middle.false in
    record { least = omega arith; most = omega arith; within = omega arith }
