use Rattle.std.proofs.Common.{length}
use Rattle.mq_engine.proofs.Kept.{IsPutting}
use Rattle.mq_engine.proofs.counting.settle_told.Given as goal

abbrev pub invariant-loop-one : goal.invariant-loop-one
invariant-loop-one l =
    IsPutting l.initial.counting.counts.items l.initial.counting.outputs.items l.initial.counting.stands.items l.initial.told.items l.counting.counts.items l.counting.outputs.items l.counting.stands.items l.told.items

abbrev pub decreases-loop-one : goal.decreases-loop-one
decreases-loop-one l = length l.told.items
