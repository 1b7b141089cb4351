use Rattle.mq_core.proofs.Sequences.NumberTotals.{exits-are_streams}
use Rattle.mq_core.proofs.laws.exits_are_streams.Goals as goal

pub returns : goal.returns
returns c = exits-are_streams
