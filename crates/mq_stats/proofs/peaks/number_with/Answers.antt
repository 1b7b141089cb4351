use Rattle.std.proofs.Common.{◌-◌, arith}
use Rattle.mq_stats.proofs.Passing.{not-passed, passed-one}
use Rattle.mq_stats.proofs.peaks.number_with.Goals as goal

pub loop-number-preserved : goal.loop-number-preserved
loop-number-preserved c =
    let some = c.loop-number.invariant.some in
    let less = not-passed c.args.time c.args.departs.now (c.args.before - c.loop-number.number) c.requires.order (omega (arith, c.requires.within, c.loop-number-test.true)) c.if-departs-before.true in
    record {
      some = omega arith;
      within = omega (arith, c.loop-number-test.true);
      least = omega (arith, c.loop-number.invariant.least);
      most = omega (arith, c.loop-number-test.true);
    }

pub returns-else-departs-before-clause-greater : goal.returns-else-departs-before-clause-greater
returns-else-departs-before-clause-greater c =
    let some = c.loop-number.invariant.some in
    let more = passed-one c.args.time c.args.departs.now (c.args.before - c.loop-number.number) c.requires.order (omega (arith, c.requires.within, c.loop-number-test.true)) (omega (arith, c.if-departs-before.false)) in
    omega (arith, c.loop-number.invariant.least, c.loop-number.invariant.most, c.loop-number-test.true)
