use Rattle.mq_kinds.proofs.Loads.{forks}
use Rattle.mq_kinds.proofs.fork.fork_whole.Goals as goal

pub returns : goal.returns
returns c = let load = c.args.load.now in forks load.rows.now load.kind.now c.args.outputs load.arrivals.now c.in_ok-streams.streams c.requires c.in_ok-streams.ensures.leaving
