use Rattle.std.proofs.Common.{◌-◌, length}
use Rattle.mq_model.proofs.TextFacts.{Lined}
use Rattle.mq_model.proofs.text.add_lines.Given as goal

abbrev pub invariant-loop-span : goal.invariant-loop-span
invariant-loop-span l = Lined l.text l.from l.number l.front

abbrev pub decreases-loop-span : goal.decreases-loop-span
decreases-loop-span l = length l.text - l.from
