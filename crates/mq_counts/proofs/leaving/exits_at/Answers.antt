use Rattle.mq_counts.proofs.Lists.{each-has}
use Rattle.mq_counts.specs.Leaving.{AreStreams}
use Rattle.mq_counts.proofs.leaving.exits_at.Goals as goal

pub exits_of-requires-clause-fit : goal.exits_of-requires-clause-fit
exits_of-requires-clause-fit c = each-has AreStreams c.args.parted.now.nodes c.args.at c.get.result.now c.requires.parted.fit c.get.ensures
