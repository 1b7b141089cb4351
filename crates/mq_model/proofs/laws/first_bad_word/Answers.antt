use Rattle.mq_model.specs.Lines.{line}
use Rattle.mq_model.proofs.FormFacts.{first_fault}
use Rattle.mq_model.proofs.LineFacts.{live_line}
use Rattle.mq_model.proofs.laws.first_bad_word.Goals as goal

pub returns : goal.returns
returns c = λ ws left e. first_fault line ws left live_line e
