use Rattle.std.proofs.Common.{◌≡◌, length}
use Rattle.std.specs.List.{AllByRecursion}
use Rattle.mq_arrivals.specs.Merges.{IsComing}
use Rattle.mq_arrivals.proofs.merges.openings.Given as goal

-- the nodes so far
abbrev pub invariant-loop-at : goal.invariant-loop-at
invariant-loop-at l = record {
  len : length l.all ≡ l.at;
  each : AllByRecursion (IsComing l.arriving 2) l.all;
}
