use Rattle.mq_core.proofs.Sequences.SequenceJobs.{jobs-are-rows}
use Rattle.mq_core.proofs.laws.jobs_are_rows.Goals as goal

pub returns : goal.returns
returns c = jobs-are-rows
