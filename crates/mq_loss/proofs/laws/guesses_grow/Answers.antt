use Rattle.std.proofs.Common.{subst}
use Rattle.mq_loss.specs.Rounds.{loss_rule}
use Rattle.mq_loss.proofs.Fates.{admission-is}
use Rattle.mq_rounds.specs.Laws.{GuessesGrow}
use Rattle.mq_rounds.proofs.lemmas.Guesses.{guesses-grow}
use Rattle.mq_loss.proofs.laws.guesses_grow.Goals as goal

pub returns : goal.returns
returns c = λ places. subst (GuessesGrow (loss_rule places)) (admission-is places) (guesses-grow (loss_rule places))
