use Rattle.std.proofs.Common.{◌≡◌, ◌++◌, drop, take, length}
use Rattle.mq_core.specs.Recurrences.{busy_at}
use Rattle.mq_trunk.specs.Kept.{IsFalling, take_place}
use Rattle.mq_trunk.proofs.judging.put_in_place.Given as goal

-- the places so far, and what is held takes its place before all of what is left
abbrev pub invariant-loop-at : goal.invariant-loop-at
invariant-loop-at l = record {
  so_far : take l.at l.latest ++ take_place l.held (drop l.at l.latest) ≡ take_place l.depart l.initial.latest;
  first : busy_at l.held (drop l.at l.latest) ≡ 0;
  falls : IsFalling (drop l.at l.latest);
  number : length l.latest ≡ length l.initial.latest;
}
