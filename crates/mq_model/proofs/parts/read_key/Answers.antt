use Rattle.std.proofs.Common.{sym}
use Rattle.mq_model.specs.Form.{read, stop}
use Rattle.mq_model.specs.Lines.{is_key}
use Rattle.mq_model.proofs.ReadFacts.{read_word_no, read_word_yes, words_first}
use Rattle.mq_model.proofs.parts.read_key.Goals as goal

pub returns-then-not-is_key : goal.returns-then-not-is_key
returns-then-not-is_key c = read_word_no _ _ _ _ _ (words_first c.args.words.now.now c.in-len1-up.len_at_least) (sym c.if-not-is_key.ensures)

pub returns : goal.returns
unfolding read
returns c = read_word_yes (is_key c.args.text.now) (λ _. stop tt) _ _ _ (words_first c.args.words.now.now c.in-len1-up.len_at_least) (sym c.if-not-is_key.ensures)
