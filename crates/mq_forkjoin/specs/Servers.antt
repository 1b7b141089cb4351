-- The servers of a fork-join in one list, branch by branch; and the law that its scan's carries give its departures.
use Rattle.std.specs.Prelude.{◌≡◌, ◌≤◌, ◌++◌, Bool, true, false, ℕ, List, [], ◌∷◌, fold, length, map, max, replicate}
use Rattle.std.specs.List.{flat_map}
use Rattle.mq_core.specs.Recurrences.{forkjoin_departs}
use Rattle.mq_forkjoin.specs.Fronts.{jobs_act, one_job}
use Rattle.mq_forkjoin.specs.declared.step.ForkJoinStep.{ForkJoinStep}
use Rattle.mq_scan.specs.Folds.{carries_after}

-- the demands of the jobs at each server, by branch, in one list
abbrev pub servers_of : List (List (List ℕ)) → List (List ℕ)
servers_of branches = flat_map (λ branch. branch) branches

-- for each server of a branch, and of all branches, whether it is the first of its branch
module _ {X : Type 0} where
  abbrev pub begins_in : List X → List Bool
  begins_in [] = []
  begins_in (server ∷ servers) = true ∷ map (λ _. false) servers

  abbrev pub begins_of : List (List X) → List Bool
  begins_of [] = []
  begins_of (branch ∷ branches) = begins_in branch ++ begins_of branches

-- in a fork-join with these branches, at least one server in all, the carries of its scan give its departures
abbrev pub CarriesHoldDepartures : ForkJoinStep → Type 0
CarriesHoldDepartures step =
    (branches : List (List (List ℕ))) → step.demands.now ≡ servers_of branches → step.begins.now ≡ begins_of branches → 1 ≤ length (servers_of branches) →
    map (fold max 0) (carries_after jobs_act (replicate 8 0) (one_job step) 0 (length step.arrive.now)) ≡ forkjoin_departs step.arrive.now branches
