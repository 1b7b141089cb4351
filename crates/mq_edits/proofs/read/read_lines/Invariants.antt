use Rattle.std.proofs.Common.{◌-◌, length}
use Rattle.mq_edits.proofs.ReadFacts.{Lined}
use Rattle.mq_edits.proofs.read.read_lines.Given as goal

abbrev pub invariant-loop-span : goal.invariant-loop-span
invariant-loop-span l = Lined l.net l.fn.front.rows l.text l.from l.number l.front.edits l.front.rows

abbrev pub decreases-loop-span : goal.decreases-loop-span
decreases-loop-span l = length l.text - l.from
