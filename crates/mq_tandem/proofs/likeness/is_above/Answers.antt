use Rattle.std.proofs.Common.{◌<◌, length, refl, arith}
use Rattle.mq_tandem.proofs.Running.{above-next}
use Rattle.mq_tandem.proofs.likeness.is_above.Goals as goal

pub loop-row-preserved : goal.loop-row-preserved
loop-row-preserved c =
    let inside : c.loop-row.row < length c.args.low.now = omega arith in
    above-next c.args.low.now c.args.high.now c.args.by c.loop-row.row c.get.result c.get-in-loop-row.result inside c.requires.same c.get.ensures c.get-in-loop-row.ensures (c.if-not-is_sum.ensures refl) c.loop-row.invariant
