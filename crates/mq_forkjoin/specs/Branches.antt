-- The servers of a fork-join, branch by branch.
use Rattle.std.specs.Prelude.{◌≡◌, ◌+◌, ◌*◌, ◌^◌, ◌≤◌, All, ℕ, List, [], ◌∷◌, length, sum, take, drop}
use Rattle.mq_core.specs.Recurrences.{in_series}

-- the demands of the servers, cut into branches with these numbers of servers
abbrev pub branches_of : List ℕ → List (List ℕ) → List (List (List ℕ))
branches_of [] demands = []
branches_of (servers ∷ more) demands = take servers demands ∷ branches_of more (drop servers demands)

-- What a fork-join may have: one or more branches, each with one or more servers, at most 8 in all, and a list of demands for each.
pub record AreBranches (branches : List ℕ) (demands : List (List ℕ)) : Type 0 where
  pub some : 1 ≤ length branches
  pub served : All (λ servers. 1 ≤ servers) branches
  pub few : sum branches ≤ 8
  pub each : length demands ≡ sum branches

-- jobs passed the first `server` servers of a branch at these times: the others make of them what all make of the arrivals
pub record Passing (arrive departs : List ℕ) (demands : List (List ℕ)) (server : ℕ) : Type 0 where
  pub so_far : in_series departs (drop server demands) ≡ in_series arrive demands
  pub many : length departs ≡ length arrive
  pub early : All (λ time. time ≤ 2 ^ 60 + server * 2 ^ 56) departs
