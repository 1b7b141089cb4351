-- The branches of a fork-join, server by server.
use Rattle.std.specs.Prelude.{◌≡◌, ◌<◌, ◌≤◌, ◌^◌, All, ℕ, List, [], ◌∷◌, length, map, slice_index_or}
use Rattle.std.specs.List.{AllByRecursion}
use Rattle.mq_core.specs.Recurrences.{in_series, later_of, lindley}
use Rattle.mq_core.specs.Sequences.{IsSoundLoad}
use Rattle.mq_forkjoin.specs.Branches.{Passing}
use Rattle.mq_kinds.specs.declared.branches.Passage.{Passage}

-- a branch has 1 to 4 servers, and what its jobs ask for at each is a sound load
pub record IsBranchLoad (arrive : List ℕ) (servers : List (List ℕ)) : Type 0 where
  pub some : 1 ≤ length servers
  pub few : length servers ≤ 4
  pub load : All (λ demands. IsSoundLoad arrive demands) servers

-- a fork-join has at most 8 branches, each of them such a one
pub record AreBranchLoads (arrive : List ℕ) (branches : List (List (List ℕ))) : Type 0 where
  pub few : length branches ≤ 8
  pub early : All (λ time. time ≤ 2 ^ 60) arrive
  pub each : AllByRecursion (IsBranchLoad arrive) branches

-- jobs are through the first servers of a branch, as many as this, at these times
pub record IsThrough (arrive : List ℕ) (server : ℕ) (servers : List (List ℕ)) (times : List ℕ) : Type 0 where
  pub load : IsBranchLoad arrive servers
  pub passing : Passing arrive times servers server

-- the servers of the branch at this index, by what their jobs ask for
abbrev pub servers_at : Passage → ℕ → List (List ℕ)
servers_at passage at = slice_index_or passage.servers.items at []

-- when its jobs come to its next server: if nothing is known of any branch, when they arrive at the fork-join
abbrev pub times_at : List ℕ → Passage → ℕ → List ℕ
times_at arrive passage at = slice_index_or passage.times.items at arrive

-- their demands at the server with this number
abbrev pub asked_at : ℕ → Passage → ℕ → List ℕ
asked_at server passage at = slice_index_or (servers_at passage at) server []

-- they depart from it at these times
abbrev pub AreDepartsAt : List ℕ → ℕ → Passage → ℕ → List ℕ → Type 0
AreDepartsAt arrive server passage at departs = departs ≡ lindley 0 (times_at arrive passage at) (asked_at server passage at)

-- index by index the latest of these times and those of some lists
abbrev pub latest_of_all : List ℕ → List (List ℕ) → List ℕ
latest_of_all times [] = times
latest_of_all times (other ∷ others) = later_of other (latest_of_all times others)

-- when the jobs are through all branches
abbrev pub departs_of : List ℕ → Passage → List ℕ
departs_of arrive passage = latest_of_all passage.latest (map (in_series arrive) passage.servers.items)

-- the jobs come to the server with this number of each branch
pub record IsPassage (arrive : List ℕ) (server : ℕ) (passage : Passage) : Type 0 where
  pub few : length passage.servers.items ≤ 8
  pub through : (at : ℕ) → at < length passage.servers.items → IsThrough arrive server (servers_at passage at) (times_at arrive passage at)
  pub inside : (at : ℕ) → at < length passage.servers.items → server < length (servers_at passage at)
  pub long : length passage.latest ≡ length arrive
