use Rattle.std.proofs.Common.{◌+◌, ◌-◌, arith}
use Rattle.mq_stats.proofs.Passing.{not-passed, passed-one}
use Rattle.mq_stats.proofs.passed.passed_far.Goals as goal

pub passed_between-requires-clause-most : goal.passed_between-requires-clause-most
passed_between-requires-clause-most c =
    let least = c.loop-step.invariant.step in
    not-passed c.args.time c.args.times.now (c.loop-step.least + c.loop-step.step - 1) c.requires.order (omega arith) c.if-times-least.true

pub loop-step-preserved : goal.loop-step-preserved
loop-step-preserved c =
    let more = passed-one c.args.time c.args.times.now (c.loop-step.least + c.loop-step.step - 1) c.requires.order (omega arith) c.if-times-least.false in
    record { least = omega arith; step = omega arith }
