use Rattle.std.proofs.Common.{subst}
use Rattle.mq_loss.specs.Rounds.{loss_rule}
use Rattle.mq_loss.proofs.Fates.{admission-is}
use Rattle.mq_rounds.specs.Laws.{OneGuessStays}
use Rattle.mq_rounds.proofs.lemmas.Guesses.{one-stays}
use Rattle.mq_loss.proofs.laws.one_guess_stays.Goals as goal

pub returns : goal.returns
returns c = λ places. subst (OneGuessStays (loss_rule places)) (admission-is places) (one-stays (loss_rule places))
