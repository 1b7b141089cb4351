use Rattle.std.proofs.Common.{◌≡◌, ◌+◌, ◌<◌, ◌≤◌, ℕ, Some, count_by, length, map, take}
use Rattle.std.specs.Prelude.{slice_get}
use Rattle.std.specs.List.{zip}
use Rattle.std.specs.Vec.{vec_len, vec_capacity}
use Rattle.mq_core.specs.declared.model.Fate.{Fate}
use Rattle.mq_core.specs.declared.model.Fate.TheVariants.{Departs}
use Rattle.mq_stats.specs.Ahead.{leaves_at_once}
use Rattle.mq_stats.proofs.pieces.ahead_of_departures.Given as goal

-- the counts of the indices so far
abbrev pub invariant-loop-at : goal.invariant-loop-at
invariant-loop-at l = record {
  at_once : l.at_once ≡ count_by (λ (p : ℕ × Fate). leaves_at_once p.0 p.1) (take l.at (zip l.arrive (map (λ time. Departs time) l.departs)));
  kept : (index : ℕ) → index < l.at + 1 → slice_get l.kept.items index ≡ Some index;
  still : (index : ℕ) → index < l.at + 1 → slice_get l.still.items index ≡ Some (count_by (λ (p : ℕ × Fate). leaves_at_once p.0 p.1) (take index (zip l.arrive (map (λ time. Departs time) l.departs))));
  few_at_once : l.at_once ≤ l.at;
  kept_many : length l.kept.items ≡ l.at + 1;
  still_many : length l.still.items ≡ l.at + 1;
  kept_len : vec_len l.kept ≡ l.at + 1;
  still_len : vec_len l.still ≡ l.at + 1;
  kept_room : length l.departs + 1 ≤ vec_capacity l.kept;
  still_room : length l.departs + 1 ≤ vec_capacity l.still;
}
