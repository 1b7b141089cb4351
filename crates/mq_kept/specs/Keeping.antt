-- What contracts see of a kept run.
use Rattle.std.specs.Prelude.{◌≡◌, ◌≤◌, ℕ, List, None}
use Rattle.mq_core.specs.Results.{refusal_of}
use Rattle.mq_core.specs.Sequences.{IsRunOf}
use Rattle.mq_core.specs.Theorems.{IsReadFor}
use Rattle.mq_core.specs.declared.model.Plan.{Plan}
use Rattle.mq_core.specs.declared.model.Rows.{Rows}
use Rattle.mq_core.specs.declared.model.Run.{Run}
use Rattle.mq_engine.specs.Progress.{AreEarly}
use Rattle.mq_kept.specs.KeptNodes.{AreCheckpoints}
use Rattle.mq_kept.specs.declared.checkpoints.Checkpoints.{Checkpoints}

-- what contracts see of a kept run
pub record KeptRun : Type 0 where
  pub plan : Plan
  pub rows : Rows
  pub run : Run
  pub workers : ℕ
  pub block : ℕ

-- the rows are read for the plan, the numbers are within their limits, and the run is that of the event list and isn't refused
pub record IsKeptRun (k : KeptRun) : Type 0 where
  pub read : IsReadFor k.plan.net k.rows
  pub some : 1 ≤ k.workers
  pub most : k.workers ≤ 64
  pub block : 64 ≤ k.block
  pub large : k.block ≤ 65536
  pub is_run : IsRunOf k.plan k.rows k.run
  pub fine : refusal_of k.plan k.rows ≡ None

-- what the type keeps: these facts, that no stream has a time after 2^60, and what is kept of each node
pub record IsKept (plan : Plan) (rows : Rows) (run : Run) (points : List Checkpoints) (workers block : ℕ) : Type 0 where
  pub whole : IsKeptRun (record { plan = plan; rows = rows; run = run; workers = workers; block = block })
  pub early : AreEarly run.outputs
  pub checkpoints : AreCheckpoints plan.net.nodes rows block run.visits points
