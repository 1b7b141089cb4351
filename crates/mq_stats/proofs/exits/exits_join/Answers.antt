use Rattle.mq_stats.proofs.ExitsJoin.{exits-join, exits-whole}
use Rattle.mq_stats.proofs.exits.exits_join.Goals as goal

pub returns : goal.returns
returns c = record { join = exits-join; whole = exits-whole }
