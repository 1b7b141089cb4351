use Rattle.std.proofs.Common.{append_assoc}
use Rattle.mq_report.specs.Text.{exit_line}
use Rattle.mq_report.proofs.lines.add_exit.Goals as goal

pub returns : goal.returns
unfolding exit_line
returns g c = simp append_assoc c.add_pieces.ensures
