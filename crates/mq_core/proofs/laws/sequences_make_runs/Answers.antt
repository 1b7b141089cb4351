use Rattle.mq_core.proofs.Sequences.NumberRuns.{sequences-make_runs}
use Rattle.mq_core.proofs.laws.sequences_make_runs.Goals as goal

pub returns : goal.returns
returns c = sequences-make_runs
