-- What is computed once for all visits, so that what some of them found follows from it and the arrivals.
use Rattle.std.specs.Prelude.{◌≡◌, ℕ, ◌+◌, ◌≤◌, ◌==◌, Bool, false, List, count_by, length, take, slice_get, Some}
use Rattle.std.specs.List.{AllByRecursion, zip}
use Rattle.mq_core.specs.Fates.{departure_times}
use Rattle.mq_core.specs.SequenceLaws.{LeavesFrom}
use Rattle.mq_core.specs.Laws.{Rises, in_order_of}
use Rattle.mq_core.specs.declared.model.Fate.{Fate}
use Rattle.mq_core.specs.declared.model.Fate.TheVariants.{Departs, Held, Lost}
use Rattle.mq_stats.specs.Departures.{stays}
use Rattle.mq_stats.specs.declared.pieces.AheadTable.{AheadTable}

-- Arrivals and fates of visits: no visit arrives before an earlier one, and none departs before it came.
pub record AreComings (arrive : List ℕ) (fate : List Fate) : Type 0 where
  pub even : length fate ≡ length arrive
  pub few : length arrive ≤ 1048576
  pub rising : Rises (λ a b. a ≤ b) arrive
  pub later : AllByRecursion (λ (p : ℕ × Fate). LeavesFrom p.0 p.1) (zip arrive fate)

-- the departure times in order
abbrev pub departure_order : List Fate → List ℕ
departure_order fate = in_order_of (λ time. time) (departure_times fate)

-- whether a visit departs at its arrival time
abbrev pub leaves_at_once : ℕ → Fate → Bool
leaves_at_once arrive (Departs time) = time == arrive
leaves_at_once arrive Lost = false
leaves_at_once arrive Held = false

-- for each index, and for the end, the number of earlier items that pass a test
pub record AreCountsBefore {X : Type 0} (test : X → Bool) (items : List X) (counts : List ℕ) : Type 0 where
  pub many : length counts ≡ length items + 1
  pub at_indices : (index : ℕ) → index ≤ length items → slice_get counts index ≡ Some (count_by test (take index items))

-- The departure times in order; for each index, how many earlier visits aren't lost, and how many earlier
-- visits depart at their arrival time.
pub record IsAhead (arrive : List ℕ) (fate : List Fate) (ahead : AheadTable) : Type 0 where
  pub comings : AreComings arrive fate
  pub leaving : ahead.leaving ≡ departure_order fate
  pub kept : AreCountsBefore stays fate ahead.kept
  pub still : AreCountsBefore (λ (p : ℕ × Fate). leaves_at_once p.0 p.1) (zip arrive fate) ahead.still
