use Rattle.std.proofs.Common.{[]}
use Rattle.mq_loss.proofs.Reading.{served}
use Rattle.mq_loss.proofs.laws.guessed_are_served.Goals as goal

pub returns : goal.returns
returns c = λ times demands guess d g. served [] times demands guess d g
