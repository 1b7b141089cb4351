-- The carries of a fork-join's scan are its departures.
use Rattle.std.proofs.Common.{◌≡◌, ◌∙◌, ◌-◌, ◌<◌, ◌≤◌, ℕ, suc, List, ap, fold, length, map, max, arith}
use Rattle.std.specs.Prelude.{All, replicate}
use Rattle.mq_core.specs.Recurrences.{forkjoin_departs}
use Rattle.mq_core.specs.Sequences.{IsSoundLoad}
use Rattle.mq_scan.specs.Folds.{carries_after, fold_to}
use Rattle.mq_forkjoin.specs.Runs.{range_run}
use Rattle.mq_forkjoin.specs.Servers.{begins_of, servers_of}
use Rattle.mq_forkjoin.proofs.Departing.{departs-long, front-time, load-long, range-fronts, times-by}

-- a fold that is what all jobs before an index make tells all departures
pub all-departures : {S : Type 0} (acted : S → List ℕ → List ℕ) (part : ℕ → S) (arrive : List ℕ) (branches : List (List (List ℕ))) →
    ((n : ℕ) → fold_to acted (replicate 8 0) part n ≡ range_run arrive (begins_of branches) (servers_of branches) 0 n (replicate 8 0)) →
    All (λ column. IsSoundLoad arrive column) (servers_of branches) → length (servers_of branches) ≤ 8 → 1 ≤ length (servers_of branches) →
    map (fold max 0) (carries_after acted (replicate 8 0) part 0 (length arrive)) ≡ forkjoin_departs arrive branches
all-departures acted part arrive branches is load few some =
    let count = length (servers_of branches) in
    let long = load-long arrive (servers_of branches) load in
    let many = departs-long arrive branches long in
    times-by (fold max 0) acted (replicate 8 0) part (forkjoin_departs arrive branches)
    (λ k l.
    let inside : k < length arrive = omega arith in
    ap (fold max 0) (is (suc k) ∙ range-fronts arrive branches long few (suc k) inside) ∙ front-time k arrive branches (8 - count) inside long some)
    0 (length arrive) (omega arith)
