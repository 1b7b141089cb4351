use Rattle.mq_core.proofs.Sequences.NumberRuns.{runs-have_sequences}
use Rattle.mq_core.proofs.laws.runs_have_sequences.Goals as goal

pub returns : goal.returns
returns c = runs-have_sequences
