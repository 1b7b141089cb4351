use Rattle.mq_chain.proofs.Schedules.{folded}
use Rattle.mq_chain.proofs.laws.carries_are_folded.Goals as goal

pub returns : goal.returns
returns c = λ blocks seats words views. folded blocks seats words views
