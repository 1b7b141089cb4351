use Rattle.std.proofs.Common.{subst}
use Rattle.mq_rounds.specs.Laws.{OneGuessStays}
use Rattle.mq_rounds.proofs.lemmas.Guesses.{one-stays}
use Rattle.mq_trunk.specs.Rounds.{trunk_rule}
use Rattle.mq_trunk.proofs.Fates.{admission-is}
use Rattle.mq_trunk.proofs.laws.one_guess_stays.Goals as goal

pub returns : goal.returns
returns c = λ servers. subst (OneGuessStays (trunk_rule servers)) (admission-is servers) (one-stays (trunk_rule servers))
