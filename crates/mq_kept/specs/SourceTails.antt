-- What comes to a source after edits of rows, following the visits that stay.
use Rattle.std.specs.Prelude.{◌≡◌, ◌<◌, ◌≤◌, ℕ, List, Some, drop, filter, length, nat_lt, slice_get, take}
use Rattle.std.specs.List.{AllByRecursion, zip}
use Rattle.mq_core.specs.Sequences.{rows_at}
use Rattle.mq_core.specs.Theorems.{IsReadFor}
use Rattle.mq_core.specs.declared.model.Kind.TheVariants.{Source}
use Rattle.mq_core.specs.declared.model.Plan.{Plan}
use Rattle.mq_core.specs.declared.model.Rows.{Rows}
use Rattle.mq_core.specs.declared.model.Visits.{Visits}
use Rattle.mq_edits.specs.Former.{rows_before}
use Rattle.mq_edits.specs.declared.former.FormerRows.{FormerRows}
use Rattle.mq_exits.specs.Results.{IsWorkedOut}
use Rattle.mq_exits.specs.declared.working.Ending.TheVariants.{OnTime}
use Rattle.mq_kept.specs.KeptNodes.{IsNodeOf}
use Rattle.mq_kept.specs.declared.former.NodeLists.{NodeLists}

-- what is kept of a source of a plan, computed over the rows of before edits; those rows and the present ones are read for the
-- plan
pub record IsKeptSource (plan : Plan) (former : FormerRows) (rows : Rows) (v : ℕ) (lists : NodeLists) : Type 0 where
  pub source : IsNodeOf plan v Source
  pub read : IsReadFor plan.net rows
  pub earlier : IsReadFor plan.net (rows_before former rows)
  pub known : IsWorkedOut plan (rows_before former rows) (record { number = v; ending = OnTime lists.visits lists.streams })

-- the first `first` times are earlier than each row of a source that edits may have changed, as it was and as it is
pub record ComeBefore (v : ℕ) (former : FormerRows) (rows : Rows) (times : List ℕ) (first : ℕ) : Type 0 where
  pub within : first ≤ length times
  pub bound : ℕ
  pub earlier : AllByRecursion (λ time. time < bound) (take first times)
  pub was : AllByRecursion (λ (p : ℕ × ℕ). bound ≤ p.0) (rows_at v former.from former.rows.source former.rows.time)
  pub is : AllByRecursion (λ (p : ℕ × ℕ). bound ≤ p.0) (rows_at v former.from (drop former.from rows.source) (drop former.from rows.time))

-- the visits from an index on whose jobs are rows before this one, with their times
abbrev pub staying_behind : ℕ → ℕ → Visits → List (ℕ × ℕ)
staying_behind first row visits = filter (λ (p : ℕ × ℕ). nat_lt p.1 row) (zip (drop first visits.arrive) (drop first visits.job))

-- the first n jobs and times of two lists are the same; the next ones, if both have some, are not
pub record AreFirstSame (jobs times jobs' times' : List ℕ) (n : ℕ) : Type 0 where
  pub within : n ≤ length jobs
  pub within' : n ≤ length jobs'
  pub jobs_same : take n jobs ≡ take n jobs'
  pub times_same : take n times ≡ take n times'
  pub differ : (job time : ℕ) → slice_get jobs n ≡ Some job → slice_get times n ≡ Some time → slice_get jobs' n ≡ Some job → slice_get times' n ≡ Some time → ⊥
