-- What rows give for jobs, and jobs in the order of the rows.
use Rattle.std.specs.Prelude.{◌≡◌, ℕ, List, Some, slice_get}
use Rattle.mq_core.specs.Told.{HasDemand}
use Rattle.mq_core.specs.declared.model.Demand.{Demand}
use Rattle.mq_core.specs.declared.model.Rows.{Rows}

-- the rows give the demand of each of these jobs
abbrev pub AreAsked : Rows → Demand → List ℕ → Type 0
AreAsked rows demand jobs = (k job : ℕ) → slice_get jobs k ≡ Some job → HasDemand rows demand job

-- the job at each position is that of the row there
abbrev pub StandInTurn : List ℕ → Type 0
StandInTurn jobs = (k job : ℕ) → slice_get jobs k ≡ Some job → job ≡ k
