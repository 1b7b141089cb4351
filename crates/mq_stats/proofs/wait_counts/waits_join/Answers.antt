use Rattle.mq_stats.proofs.WaitsJoin.{waits-join}
use Rattle.mq_stats.proofs.wait_counts.waits_join.Goals as goal

pub returns : goal.returns
returns c = waits-join
