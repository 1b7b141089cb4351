use Rattle.mq_core.proofs.Sequences.SinceRows.{none-before_its_row}
use Rattle.mq_core.proofs.laws.none_before_its_row.Goals as goal

pub returns : goal.returns
returns c = none-before_its_row
