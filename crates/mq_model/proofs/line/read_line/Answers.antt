use Rattle.std.proofs.Common.{◌≤◌, arith, length}
use Rattle.std.proofs.lemmas.Grind.{common_steps}
use Rattle.mq_base.specs.Text.{texts}
use Rattle.mq_model.specs.Lines.{line}
use Rattle.mq_model.proofs.ReadFacts.{left_of_fault, left_of_read, texts_length, whole_fault, whole_more}
use Rattle.mq_model.proofs.line.read_line.Goals as goal

pub overflow_sub-result : goal.overflow_sub-result
overflow_sub-result c = omega (arith, left_of_read line _ _ _ c.in-Ok.ensures, texts_length c.args.words.now, texts_length c.read_any.new.words.now)

pub returns-then-not-is_empty : goal.returns-then-not-is_empty
returns-then-not-is_empty c =
    let some : 1 ≤ length (texts c.read_any.new.words.now) = grind (arith, common_steps, c.if-not-is_empty.ensures) in
    (texts c.read_any.new.words.now, whole_more _ _ _ some c.in-Ok.ensures, omega (arith, left_of_read line _ _ _ c.in-Ok.ensures, texts_length c.args.words.now, texts_length c.read_any.new.words.now))

pub overflow_sub-result-in-Err-Word : goal.overflow_sub-result-in-Err-Word
overflow_sub-result-in-Err-Word c =
    omega (arith, left_of_fault line _ _ (rw c.in-Err-Word.field-0-is at c.in-Err-Word.ensures), texts_length c.args.words.now, texts_length c.read_any.new.words.now)

pub returns-in-Err-Word : goal.returns-in-Err-Word
returns-in-Err-Word c =
    let fault = rw c.in-Err-Word.field-0-is at c.in-Err-Word.ensures in
    (texts c.read_any.new.words.now, whole_fault _ _ fault, omega (arith, left_of_fault line _ _ fault, texts_length c.args.words.now, texts_length c.read_any.new.words.now))
