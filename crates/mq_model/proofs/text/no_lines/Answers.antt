use Rattle.mq_model.proofs.FrontFacts.{front_of_nothing}
use Rattle.mq_model.proofs.text.no_lines.Goals as goal

pub returns : goal.returns
returns c = front_of_nothing _ _ _ _ c.new.ensures c.new-2.ensures c.new-3.ensures c.new-4.ensures
