use Rattle.std.proofs.Common.{sym, ◌∙◌, refl}
use Rattle.mq_model.specs.Lines.{is_demand, demand_of}
use Rattle.mq_model.proofs.ReadFacts.{read_one_no, read_one_yes, words_first}
use Rattle.mq_model.proofs.parts.read_demand.Goals as goal

pub returns-then-not-is_demand : goal.returns-then-not-is_demand
returns-then-not-is_demand c = read_one_no is_demand demand_of _ _ _ (words_first c.args.words.now.now c.in-len1-up.len_at_least) (sym c.if-not-is_demand.ensures)

pub returns : goal.returns
returns c = read_one_yes is_demand demand_of _ _ _ (words_first c.args.words.now.now c.in-len1-up.len_at_least) (sym c.if-not-is_demand.ensures) ∙ rw (c.in_ok-demand.ensures (sym c.if-not-is_demand.ensures)) refl
