use Rattle.mq_core.proofs.Sequences.BareTimes.{visits-stay-bare_time}
use Rattle.mq_core.proofs.laws.visits_stay_their_bare_time.Goals as goal

pub returns : goal.returns
returns c = visits-stay-bare_time
