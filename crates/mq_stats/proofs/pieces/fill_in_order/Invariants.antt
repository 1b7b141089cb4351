use Rattle.std.proofs.Common.{◌≡◌, ◌+◌, ◌-◌, ◌<◌, ◌≤◌, ◌++◌, drop, get_or, take, map, length}
use Rattle.mq_core.specs.OnceOut.{founds_from, founds_of}
use Rattle.mq_core.specs.declared.model.Fate.TheVariants.{Departs}
use Rattle.mq_stats.proofs.Passing.{up_to}
use Rattle.mq_stats.proofs.pieces.fill_in_order.Given as goal

-- what the visits so far found, with what is left, is all from the first on; and so many had left by then
abbrev pub invariant-loop-index : goal.invariant-loop-index
invariant-loop-index l = record {
  so_far : take l.index l.found ++ founds_from (take (l.first + l.index) (map (λ time. Departs time) l.departs)) (drop (l.first + l.index) l.arrive) (drop (l.first + l.index) (map (λ time. Departs time) l.departs)) ≡ drop l.first (founds_of l.arrive (map (λ time. Departs time) l.departs));
  left : l.index < length l.found → l.left ≤ up_to (get_or l.arrive (l.first + l.index) 0) l.departs;
  within : l.index ≤ length l.found;
  inside : l.left ≤ length l.departs;
  len : length l.found ≡ length l.initial.found;
}

-- the rounds that are left
abbrev pub decreases-loop-index : goal.decreases-loop-index
decreases-loop-index l = length l.found - l.index + (length l.departs - l.left)
