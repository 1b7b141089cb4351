-- The servers of a fork-join in one list, branch after branch, and what the rows say that jobs ask for there.
use Rattle.std.specs.Prelude.{Bool, true, false, ℕ, zero, suc, List, [], ◌∷◌, map, replicate}
use Rattle.std.specs.List.{flat_map}
use Rattle.mq_core.specs.Handling.{demand_of_job}
use Rattle.mq_core.specs.declared.model.Demand.{Demand}
use Rattle.mq_core.specs.declared.model.Rows.{Rows}

-- for each of the servers of a branch, whether it is the first
abbrev pub begins_with : ℕ → List Bool
begins_with zero = []
begins_with (suc n) = true ∷ replicate n false

-- what these jobs ask for at each server, branch after branch
abbrev pub asks_at_servers : Rows → List (List Demand) → List ℕ → List (List ℕ)
asks_at_servers rows branches jobs = map (λ demand. map (demand_of_job rows demand) jobs) (flat_map (λ demands. demands) branches)
