use Rattle.std.proofs.Common.{arith, length-take, take}
use Rattle.mq_base.proofs.lemmas.Digits.{reads_more, reads_short}
use Rattle.mq_trace.proofs.plain.leading_digits.Goals as goal

pub overflow_mul-value : goal.overflow_mul-value
overflow_mul-value c =
    let few = length-take c.min-most.result c.args.text.now in
    let small = reads_short (take c.min-most.result c.args.text.now) c.loop-index.index c.loop-index.value c.loop-index.invariant (omega (arith, few, c.min-most.ensures)) in
    omega arith

pub overflow_add-value : goal.overflow_add-value
overflow_add-value c =
    let few = length-take c.min-most.result c.args.text.now in
    let small = reads_short (take c.min-most.result c.args.text.now) c.loop-index.index c.loop-index.value c.loop-index.invariant (omega (arith, few, c.min-most.ensures)) in
    let digit = c.if-not-is_ascii_digit.ensures.cases in
    omega arith

pub loop-index-preserved : goal.loop-index-preserved
loop-index-preserved c =
    let digit = c.if-not-is_ascii_digit.ensures.cases in
    reads_more _ _ _ _ c.loop-index.invariant c.loop-index-test.true (omega (arith, digit)) (omega (arith, digit)) (omega arith)
