use Rattle.std.proofs.Common.{append_assoc}
use Rattle.mq_report.specs.Text.{node_tail}
use Rattle.mq_report.proofs.lines.add_tail.Goals as goal

pub returns-in-Some : goal.returns-in-Some
unfolding node_tail
returns-in-Some g c = rw c.in-Some.is (simp append_assoc c.add_pieces-in-Some.ensures)
