use Rattle.std.proofs.Common.{arith}
use Rattle.mq_base.proofs.lemmas.Digits.{reads_more, reads_short}
use Rattle.mq_base.proofs.text.short_value.Goals as goal

pub overflow_mul-value : goal.overflow_mul-value
overflow_mul-value c =
    let small = reads_short c.args.text.now c.loop-byte.byte-index c.loop-byte.value c.loop-byte.invariant (omega arith) in
    omega arith

pub overflow_add-value : goal.overflow_add-value
overflow_add-value c =
    let small = reads_short c.args.text.now c.loop-byte.byte-index c.loop-byte.value c.loop-byte.invariant (omega arith) in
    let digit = c.if-not-is_ascii_digit.ensures.cases in
    omega arith

pub loop-byte-preserved : goal.loop-byte-preserved
loop-byte-preserved c =
    let digit = c.if-not-is_ascii_digit.ensures.cases in
    reads_more _ _ _ _ c.loop-byte.invariant c.loop-byte-test.true (omega (arith, digit)) (omega (arith, digit)) (omega arith)
