-- What a job leaves to the next in a fork-join: the latest departure from each server, branch by branch, and 0 after the last.
use Rattle.std.specs.Prelude.{◌+◌, ◌≡◌, ◌≤◌, ◌^◌, All, Bool, if◌then◌else◌, ℕ, zero, suc, List, [], ◌∷◌, length, map, max, slice_index}
use Rattle.mq_core.specs.Sequences.{IsSoundLoad}

-- the departures of a job that comes at this time and left the server before at that time; for each server there is whether it begins a branch, the demand there, and the latest departure before it
abbrev pub job_run : ℕ → ℕ → List Bool → List ℕ → List ℕ → List ℕ
job_run came time [] demands last = last
job_run came time (begins ∷ more) [] last = last
job_run came time (begins ∷ more) (demand ∷ demands) [] = []
job_run came time (begins ∷ more) (demand ∷ demands) (left ∷ last) =
    let done = max (if begins then came else time) left + demand in done ∷ job_run came done more demands last

-- the demands of the job at an index, by server
abbrev pub asked_at : List (List ℕ) → ℕ → List ℕ
asked_at demands at = map (λ column. slice_index column at) demands

-- what n jobs make of the latest departures, the first at this index
abbrev pub range_run : List ℕ → List Bool → List (List ℕ) → ℕ → ℕ → List ℕ → List ℕ
range_run arrive begins demands from zero last = last
range_run arrive begins demands from (suc n) last =
    job_run (slice_index arrive (from + n)) 0 begins (asked_at demands (from + n)) (range_run arrive begins demands from n last)

-- arrivals and demands of a fork-join of at most 8 servers
pub record IsForkJoinLoad (arrive : List ℕ) (begins : List Bool) (demands : List (List ℕ)) : Type 0 where
  pub few : length arrive ≤ 1048576
  pub early : All (λ time. time ≤ 2 ^ 60) arrive
  pub columns : All (λ column. IsSoundLoad arrive column) demands
  pub servers : length begins ≤ 8
  pub each : length demands ≡ length begins
