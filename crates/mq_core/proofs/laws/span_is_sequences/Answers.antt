use Rattle.mq_core.proofs.Sequences.NumberSpan.{span-is_sequences}
use Rattle.mq_core.proofs.laws.span_is_sequences.Goals as goal

pub returns : goal.returns
returns c = span-is_sequences
