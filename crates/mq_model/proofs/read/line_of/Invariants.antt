use Rattle.std.proofs.Common.{◌≡◌, drop, get_or}
use Rattle.mq_model.specs.Placed.{declaring}
use Rattle.mq_model.proofs.read.line_of.Given as goal

abbrev pub invariant-loop-at : goal.invariant-loop-at
invariant-loop-at l = get_or (declaring l.lines l.saids) l.node 0 ≡ get_or (declaring (drop l.at l.lines) (drop l.at l.saids)) l.left 0
