use Rattle.std.proofs.Common.{◌≡◌, ◌+◌, length}
use Rattle.std.specs.List.{AllByRecursion}
use Rattle.mq_arrivals.specs.Merges.{IsComing}
use Rattle.mq_arrivals.proofs.Comings.{HasComeBy}
use Rattle.mq_arrivals.proofs.merges.all_further.Given as goal

-- the nodes that are left, and those so far
abbrev pub invariant-loop-arrived : goal.invariant-loop-arrived
invariant-loop-arrived l = record {
  len : length l.all + length l.left.items ≡ length l.fn.comings;
  come : AllByRecursion (HasComeBy (l.arriving, l.port)) l.left.items;
  each : AllByRecursion (IsComing l.arriving (l.port + 1)) l.all;
}

abbrev pub decreases-loop-arrived : goal.decreases-loop-arrived
decreases-loop-arrived l = length l.left.items
