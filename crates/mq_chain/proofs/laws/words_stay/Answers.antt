use Rattle.mq_chain.proofs.Schedules.{stays}
use Rattle.mq_chain.proofs.laws.words_stay.Goals as goal

pub returns : goal.returns
returns c = λ blocks words later views after. stays blocks words views later after
