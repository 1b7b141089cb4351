use Rattle.mq_core.proofs.Sequences.NumberTotals.{totals-are_sequences}
use Rattle.mq_core.proofs.laws.totals_are_sequences.Goals as goal

pub returns : goal.returns
returns c = totals-are_sequences
