use Rattle.mq_core.proofs.Sequences.NumberRefusals.{refusal-is_first}
use Rattle.mq_core.proofs.laws.refusal_is_first.Goals as goal

pub returns : goal.returns
returns c = refusal-is_first
