use Rattle.mq_core.proofs.Networks.NetworkRuns.{runs-are-of-networks}
use Rattle.mq_core.proofs.laws.runs_are_of_networks.Goals as goal

pub returns : goal.returns
returns c = runs-are-of-networks
