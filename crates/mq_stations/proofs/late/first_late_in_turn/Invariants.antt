use Rattle.std.proofs.Common.{◌≡◌, ◌<◌, ◌≤◌, ℕ, ◌-◌, Some, length, take}
use Rattle.std.specs.Prelude.{slice_get}
use Rattle.std.specs.List.{AllByRecursion}
use Rattle.mq_stations.proofs.late.first_late_in_turn.Given as goal

-- those before the first index are within the bound, and the one at the last is not
abbrev pub invariant-loop-first : goal.invariant-loop-first
invariant-loop-first l = record {
  order : l.first ≤ l.last;
  within : l.last ≤ length l.departs;
  early : AllByRecursion (λ time. time ≤ l.bound) (take l.first l.departs);
  late : (time : ℕ) → slice_get l.departs l.last ≡ Some time → l.bound < time;
}

abbrev pub decreases-loop-first : goal.decreases-loop-first
decreases-loop-first l = l.last - l.first
