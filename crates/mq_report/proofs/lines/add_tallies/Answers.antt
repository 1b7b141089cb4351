use Rattle.std.proofs.Common.{append_assoc}
use Rattle.mq_report.specs.Text.{node_tallies}
use Rattle.mq_report.proofs.lines.add_tallies.Goals as goal

pub returns : goal.returns
unfolding node_tallies
returns g c = simp append_assoc c.add_pieces.ensures
