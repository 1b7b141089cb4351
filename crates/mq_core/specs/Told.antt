-- What rows give for one demand, for a column and for several demands.
use Rattle.std.specs.List.{AllByRecursion}
use Rattle.std.specs.Prelude.{List, Some, length, slice_get, ℕ, ◌<◌, ◌^◌, ◌≡◌, ◌≤◌}
use Rattle.mq_core.specs.Handling.{demand_of_job}
use Rattle.mq_core.specs.declared.model.Demand.{Demand}
use Rattle.mq_core.specs.declared.model.Demand.TheVariants.{Column, Fixed}
use Rattle.mq_core.specs.declared.model.Rows.{Rows}

-- the rows have this column, and it has a value for this job
pub record HasValue (rows : Rows) (column job : ℕ) : Type 0 where
  pub inside : column < length rows.demands
  pub reaches : (values : List ℕ) → slice_get rows.demands column ≡ Some values → job < length values

-- the rows give the demand of this job
abbrev pub HasDemand : Rows → Demand → ℕ → Type 0
HasDemand rows (Column column) job = HasValue rows column job
HasDemand rows (Fixed demand) job = Unit {0}

-- the rows give the demand of this job, and it is in its limit
abbrev pub IsTold : Rows → Demand → ℕ → Type 0
IsTold rows demand job = HasDemand rows demand job × (demand_of_job rows demand job ≤ 2 ^ 36)

-- the rows give these demands of this job, at most 8 and each at most 2^36, so that they can be added
pub record AreTold (rows : Rows) (demands : List Demand) (job : ℕ) : Type 0 where
  pub few : length demands ≤ 8
  pub each : AllByRecursion (λ demand. HasDemand rows demand job) demands
  pub small : AllByRecursion (λ demand. demand_of_job rows demand job ≤ 2 ^ 36) demands
