use Rattle.std.proofs.Common.{append_assoc}
use Rattle.mq_report.specs.Text.{node_losses}
use Rattle.mq_report.proofs.lines.add_losses.Goals as goal

pub returns-then-tells_held : goal.returns-then-tells_held
unfolding node_losses
returns-then-tells_held g c = rw c.if-tells_held.true (simp append_assoc c.add_pieces.ensures)
