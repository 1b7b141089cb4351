use Rattle.mq_core.proofs.Join.MatchedTimes.{visits-fare_by_match}
use Rattle.mq_core.proofs.laws.visits_fare_by_match.Goals as goal

pub returns : goal.returns
returns c = visits-fare_by_match
