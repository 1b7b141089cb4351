use Rattle.std.proofs.Common.{length}
use Rattle.mq_arrivals.proofs.Comings.{AreMerging}
use Rattle.mq_arrivals.proofs.merges.all_merged.Given as goal

abbrev pub invariant-loop-coming : goal.invariant-loop-coming
invariant-loop-coming l = AreMerging l.initial.comings.items l.comings.items l.groups.items l.all

abbrev pub decreases-loop-coming : goal.decreases-loop-coming
decreases-loop-coming l = length l.comings.items
