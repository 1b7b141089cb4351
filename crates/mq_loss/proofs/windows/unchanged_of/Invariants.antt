use Rattle.std.proofs.Common.{◌≡◌, ◌+◌, drop}
use Rattle.mq_loss.specs.Windows.{unchanged_in}
use Rattle.mq_loss.proofs.windows.unchanged_of.Given as goal

abbrev pub invariant-loop-at : goal.invariant-loop-at
invariant-loop-at l = unchanged_in l.outcome ≡ l.at + unchanged_in (drop l.at l.outcome)
