use Rattle.mq_loss.specs.Rounds.{loss_rule}
use Rattle.mq_rounds.proofs.lemmas.Departing.{judged-each}
use Rattle.mq_loss.proofs.laws.rounds_judge_each.Goals as goal

pub returns : goal.returns
returns c = λ places. judged-each (loss_rule places)
