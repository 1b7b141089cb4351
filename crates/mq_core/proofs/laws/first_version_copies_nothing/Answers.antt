use Rattle.mq_core.proofs.Sequences.SequenceFew.{first-version_copies_nothing}
use Rattle.mq_core.proofs.laws.first_version_copies_nothing.Goals as goal

pub returns : goal.returns
returns c = first-version_copies_nothing
