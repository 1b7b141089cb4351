use Rattle.mq_core.proofs.Sequences.NumberRefusals.{refusal-is_none}
use Rattle.mq_core.proofs.laws.refusal_is_none.Goals as goal

pub returns : goal.returns
returns c = refusal-is_none
