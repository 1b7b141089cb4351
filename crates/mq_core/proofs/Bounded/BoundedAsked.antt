-- What jobs ask for, each at most 2^36.
use Rattle.std.proofs.Common.{List, [], map, ℕ, ◌^◌, ◌∷◌, ◌≤◌}
use Rattle.std.specs.List.{AllByRecursion as Each}
use Rattle.mq_base.proofs.lemmas.Each.{Each-weaker}
use Rattle.mq_core.specs.Handling.{demand_of_job}
use Rattle.mq_core.specs.declared.model.Demand.{Demand}
use Rattle.mq_core.specs.declared.model.Rows.{Rows}
use Rattle.mq_core.proofs.Bounded.BoundedStations.{AreSmall}

-- what these jobs ask for
abbrev pub asked : Rows → List ℕ → Demand → List ℕ
asked rows jobs demand = map (demand_of_job rows demand) jobs

pub asked-small : (rows : Rows) (demand : Demand) (jobs : List ℕ) → Each (λ job. demand_of_job rows demand job ≤ 2 ^ 36) jobs → AreSmall (asked rows jobs demand)
asked-small rows demand [] h = tt
asked-small rows demand (job ∷ jobs) h = (h.0, asked-small rows demand jobs h.1)

-- what each job asks for of all demands, all jobs ask for of each
pub all-small : (rows : Rows) (jobs : List ℕ) (demands : List Demand) → Each (λ job. Each (λ demand. demand_of_job rows demand job ≤ 2 ^ 36) demands) jobs → Each (λ demand. AreSmall (asked rows jobs demand)) demands
all-small rows jobs [] h = tt
all-small rows jobs (demand ∷ demands) h =
    (asked-small rows demand jobs (Each-weaker _ _ (λ job k. k.0) jobs h), all-small rows jobs demands (Each-weaker _ _ (λ job k. k.1) jobs h))
