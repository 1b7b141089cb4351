use Rattle.mq_core.proofs.Sequences.NumberRuns.{streams-make_outputs}
use Rattle.mq_core.proofs.laws.streams_make_outputs.Goals as goal

pub returns : goal.returns
returns c = streams-make_outputs
