-- No job comes to a node, or leaves one, before the time of its row.
use Rattle.std.specs.List.{AllByRecursion}
use Rattle.std.specs.Prelude.{List, Some, length, map, slice_get, slice_index, sum, ℕ, ◌+◌, ◌<◌, ◌≡◌, ◌≤◌}
use Rattle.mq_core.specs.Local.{Local}
use Rattle.mq_core.specs.Machine.{Emission, Station, Visit}
use Rattle.mq_core.specs.Results.{exit_of, stream_from}
use Rattle.mq_core.specs.StandardTable.{run_of}
use Rattle.mq_core.specs.declared.model.Plan.{Plan}
use Rattle.mq_core.specs.declared.model.Rows.{Rows}

-- the job is the index of a row, whose time is no later than this
pub record IsSinceRow (rows : Rows) (job time : ℕ) : Type 0 where
  pub row : job < length rows.time
  pub since : slice_index rows.time job ≤ time

-- the times of the rows of these jobs
abbrev pub row_times : Rows → List ℕ → List ℕ
row_times rows jobs = map (slice_index rows.time) jobs

-- No visit to a node comes before the time of its row, and nothing leaves the node before that. So no difference of times is cut off
-- at 0: the sum of an exit is the sum of the times at which its jobs left, less those of their rows.
pub record IsSinceRows (rows : Rows) (s : Station Local) : Type 0 where
  pub visits : AllByRecursion (λ (x : Visit). IsSinceRow rows x.job x.arrive) s.visits
  pub emitted : AllByRecursion (λ (m : Emission). IsSinceRow rows m.job m.time) s.emitted
  pub streams : (out position job time : ℕ) → slice_get (stream_from s out).job position ≡ Some job → slice_get (stream_from s out).time position ≡ Some time → IsSinceRow rows job time
  pub exits : (out : ℕ) → (exit_of rows s out).1 + sum (row_times rows (stream_from s out).job) ≡ sum (stream_from s out).time

abbrev pub NoneBeforeItsRow : Type 0
NoneBeforeItsRow = (plan : Plan) (rows : Rows) (v : ℕ) → IsSinceRows rows ((run_of plan rows).stations v)
