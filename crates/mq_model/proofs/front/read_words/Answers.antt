use Rattle.std.proofs.Common.{sym}
use Rattle.mq_base.specs.Text.{texts}
use Rattle.mq_model.proofs.FrontFacts.{word_number}
use Rattle.mq_model.proofs.front.read_words.Goals as goal

pub returns-in-Err-Word-clause-err : goal.returns-in-Err-Word-clause-err
returns-in-Err-Word-clause-err c = λ _.
    word_number c.args.has_bound c.args.version c.in-Err-Word.word c.args.number (texts c.args.words.now) (sym c.if-is_barred.ensures) (rw c.in-Err-Word.field-0-is at c.in-Err-Word.ensures)
