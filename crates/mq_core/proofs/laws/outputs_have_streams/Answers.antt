use Rattle.mq_core.proofs.Sequences.NumberRuns.{outputs-have_streams}
use Rattle.mq_core.proofs.laws.outputs_have_streams.Goals as goal

pub returns : goal.returns
returns c = outputs-have_streams
