use Rattle.std.proofs.Common.{sym, ◌∙◌, refl}
use Rattle.mq_core.specs.Names.{is_name}
use Rattle.mq_model.proofs.ReadFacts.{read_one_no, read_one_yes, words_first}
use Rattle.mq_model.proofs.parts.read_name.Goals as goal

pub returns-then-not-is_name : goal.returns-then-not-is_name
returns-then-not-is_name c = read_one_no is_name (λ w. w) _ _ _ (words_first c.args.words.now.now c.in-len1-up.len_at_least) (sym c.if-not-is_name.ensures)

pub returns : goal.returns
returns c = read_one_yes is_name (λ w. w) _ _ _ (words_first c.args.words.now.now c.in-len1-up.len_at_least) (sym c.if-not-is_name.ensures) ∙ rw c.in_ok-name.ensures refl
