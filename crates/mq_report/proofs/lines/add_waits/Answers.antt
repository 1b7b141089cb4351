use Rattle.std.proofs.Common.{append_assoc}
use Rattle.std.proofs.lemmas.List.{append-nil}
use Rattle.mq_report.specs.Text.{node_waits}
use Rattle.mq_report.proofs.lines.add_waits.Goals as goal

pub returns : goal.returns
unfolding node_waits
returns g c = simp append_assoc (simp append-nil at c.add_pieces.ensures)
