use Rattle.std.proofs.Common.{◌+◌, ◌-◌, length}
use Rattle.mq_loss.proofs.Repeating.{IsRepeating}
use Rattle.mq_loss.proofs.whole.settle_whole.Given as goal

-- where the run of rounds stands
abbrev pub invariant-loop-stays : goal.invariant-loop-stays
invariant-loop-stays l = IsRepeating l.places l.stream.time l.demands l.rounds l.guess l.stays

abbrev pub decreases-loop-stays : goal.decreases-loop-stays
decreases-loop-stays l = length l.stream.time + 2 - l.rounds
