use Rattle.std.proofs.Common.{subst}
use Rattle.mq_rounds.specs.Laws.{GuessesGrow}
use Rattle.mq_rounds.proofs.lemmas.Guesses.{guesses-grow}
use Rattle.mq_trunk.specs.Rounds.{trunk_rule}
use Rattle.mq_trunk.proofs.Fates.{admission-is}
use Rattle.mq_trunk.proofs.laws.guesses_grow.Goals as goal

pub returns : goal.returns
returns c = λ servers. subst (GuessesGrow (trunk_rule servers)) (admission-is servers) (guesses-grow (trunk_rule servers))
