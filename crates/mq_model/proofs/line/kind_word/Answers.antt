use Rattle.std.proofs.Common.{sym}
use Rattle.mq_model.proofs.ReadFacts.{kind_delay, kind_forkjoin, kind_loss, kind_other, kind_server, kind_split, kind_tandem}
use Rattle.mq_model.proofs.line.kind_word.Goals as goal

pub returns-then-is_key : goal.returns-then-is_key
returns-then-is_key c all more e = kind_server all more _ e (sym c.if-is_key.ensures)

pub returns-then-is_key-2 : goal.returns-then-is_key-2
returns-then-is_key-2 c all more e = kind_delay all more _ e (sym c.if-is_key.ensures) (sym c.if-is_key-2.ensures)

pub returns-then-is_key-3 : goal.returns-then-is_key-3
returns-then-is_key-3 c all more e = kind_loss all more _ e (sym c.if-is_key.ensures) (sym c.if-is_key-2.ensures) (sym c.if-is_key-3.ensures)

pub returns-then-is_key-4 : goal.returns-then-is_key-4
returns-then-is_key-4 c all more e =
    kind_tandem all more _ e (sym c.if-is_key.ensures) (sym c.if-is_key-2.ensures) (sym c.if-is_key-3.ensures) (sym c.if-is_key-4.ensures)

pub returns-then-is_key-5 : goal.returns-then-is_key-5
returns-then-is_key-5 c all more e =
    kind_forkjoin all more _ e (sym c.if-is_key.ensures) (sym c.if-is_key-2.ensures) (sym c.if-is_key-3.ensures) (sym c.if-is_key-4.ensures) (sym c.if-is_key-5.ensures)

pub returns-then-is_key-6 : goal.returns-then-is_key-6
returns-then-is_key-6 c all more e =
    kind_split all more _ e (sym c.if-is_key.ensures) (sym c.if-is_key-2.ensures) (sym c.if-is_key-3.ensures) (sym c.if-is_key-4.ensures) (sym c.if-is_key-5.ensures) (sym c.if-is_key-6.ensures)

pub returns : goal.returns
returns c all more e =
    kind_other all more _ e (sym c.if-is_key.ensures) (sym c.if-is_key-2.ensures) (sym c.if-is_key-3.ensures) (sym c.if-is_key-4.ensures) (sym c.if-is_key-5.ensures) (sym c.if-is_key-6.ensures)
