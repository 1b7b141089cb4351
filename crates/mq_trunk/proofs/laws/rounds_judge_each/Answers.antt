use Rattle.mq_rounds.proofs.lemmas.Departing.{judged-each}
use Rattle.mq_trunk.specs.Rounds.{trunk_rule}
use Rattle.mq_trunk.proofs.laws.rounds_judge_each.Goals as goal

pub returns : goal.returns
returns c = λ servers. judged-each (trunk_rule servers)
