use Rattle.mq_core.proofs.Join.HeldVisits.{held-are-entries}
use Rattle.mq_core.proofs.laws.held_are_entries.Goals as goal

pub returns : goal.returns
returns c = held-are-entries
