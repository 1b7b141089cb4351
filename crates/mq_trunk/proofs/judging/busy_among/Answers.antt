use Rattle.std.proofs.Common.{ℕ, ◌+◌, ◌-◌, ◌/◌, ◌<◌, length, arith}
use Rattle.mq_trunk.proofs.Keeping.{busy-few, falls-later-at, falls-past-at}
use Rattle.mq_trunk.proofs.judging.busy_among.Goals as goal

pub loop-low-init : goal.loop-low-init
loop-low-init c = let few = busy-few c.args.now c.args.latest.now in record { least = omega arith; most = few; within = omega arith }

pub loop-low-preserved-then-now-latest : goal.loop-low-preserved-then-now-latest
loop-low-preserved-then-now-latest c =
    let middle : ℕ = c.loop-low.low + (c.loop-low.high - c.loop-low.low) / 2 in
    let before : middle < length c.args.latest.now = (let w = c.loop-low.invariant.within in let t = c.loop-low-test.true in omega arith) in
    let later = falls-later-at c.args.now middle c.args.latest.now c.requires before c.if-now-latest.true in
    record { least = omega arith; most = c.loop-low.invariant.most; within = c.loop-low.invariant.within }

pub loop-low-preserved : goal.loop-low-preserved
loop-low-preserved c =
    let middle : ℕ = c.loop-low.low + (c.loop-low.high - c.loop-low.low) / 2 in
    let before : middle < length c.args.latest.now = (let w = c.loop-low.invariant.within in let t = c.loop-low-test.true in omega arith) in
    let past = falls-past-at c.args.now middle c.args.latest.now c.requires before c.if-now-latest.false in
    record { least = c.loop-low.invariant.least; most = past; within = omega arith }
