-- At the end each job was served at every server of a fork-join.
use Rattle.std.proofs.Common.{◌≡◌, ℕ, ◌+◌, ◌-◌, List, [], ◌∷◌, ◌++◌, length, sym, refl, ap, ◌∙◌, arith}
use Rattle.std.proofs.lemmas.List.Sums.{sum_by-append, sum_by-cons}
use Rattle.std.specs.Prelude.{slice_get, filter, sum_by}
use Rattle.std.specs.List.{flat_map}
use Rattle.mq_core.proofs.Events.Areas.{sum-both, sum-none}
use Rattle.mq_core.specs.Event.{Event}
use Rattle.mq_core.specs.Handling.{demand_of_visit, demand_at}
use Rattle.mq_core.specs.Local.{Branch}
use Rattle.mq_core.specs.Machine.{Visit, Emission}
use Rattle.mq_core.specs.Tallies.{sum_below}
use Rattle.mq_core.specs.declared.model.Demand.{Demand}
use Rattle.mq_core.specs.declared.model.Rows.{Rows}
use Rattle.mq_core.proofs.ForkJoin.ForkJoinServers.{Series, is_at_server, departing}
use Rattle.mq_core.proofs.ForkJoin.ForkJoinBranches.{Branching}
use Rattle.mq_core.proofs.ForkJoin.ForkJoins.{ForkJoining}
use Rattle.mq_core.proofs.ForkJoin.ForkJoinLoads.{count_in, most_inside, most-staying}
use Rattle.mq_core.proofs.ForkJoin.ForkJoinBusy.{series_begun, branches_begun}
use Rattle.mq_core.proofs.ForkJoin.ForkJoinEnds.{forkjoining-done}
use Rattle.mq_core.proofs.Events.Remaining.{remaining}

module _ (rows : Rows) (v : ℕ) (all : List Visit) (n now : ℕ) where
  series-idle : (server : ℕ) (ds : List Demand) (visits : List Visit) (queues : List (List ℕ)) (ended : List Visit) (pend : ℕ → List Event) → Series rows v server ds visits queues ended pend now → count_in queues ≡ 0 → series_begun rows all n ds queues ≡ sum_below n (λ p. sum_by (λ d. demand_at rows d all p) ds)
  series-idle server [] visits queues ended pend h e = sym (sum-none n (λ _. 0) (λ k l. refl))
  series-idle server (d ∷ ds) visits [] ended pend h e = absurd h
  series-idle server (d ∷ ds) visits (queue ∷ queues) ended pend (gone, here, h, rest) e =
      let one : n - (length queue - 1) ≡ n = omega arith in
      let two : n - length queue ≡ n = omega arith in
      let a = ap (λ k. sum_below k (λ p. demand_at rows d all p)) one in
      let b = ap (λ k. series_begun rows all k ds queues) two in
      let r = series-idle (server + 1) ds (departing rows d 0 gone) queues ended pend rest (omega arith) in
      let s = sum-both n (λ p. demand_at rows d all p) (λ p. sum_by (λ e. demand_at rows e all p) ds) (λ p. sum_by (λ e. demand_at rows e all p) (d ∷ ds)) (λ p. sum_by-cons (λ e. demand_at rows e all p) d ds) in
      omega arith

  branches-idle : (server : ℕ) (demands : List (List Demand)) (visits : List Visit) (branches : List Branch) (endeds : List (List Visit)) (pend : ℕ → List Event) → Branching rows v server demands visits branches endeds pend now → most_inside branches ≡ 0 →
      branches_begun rows all n demands branches ≡ sum_below n (λ p. sum_by (λ d. demand_at rows d all p) (flat_map (λ ds. ds) demands))
  branches-idle server [] visits branches endeds pend h e = sym (sum-none n (λ _. 0) (λ k l. refl))
  branches-idle server (ds ∷ more) visits [] endeds pend h e = absurd h
  branches-idle server (ds ∷ more) visits (b ∷ bs) [] pend h e = absurd h
  branches-idle server (ds ∷ more) visits (b ∷ bs) (f ∷ fs) pend h e =
      let a = series-idle server ds visits b.queues f pend h.0 (omega arith) in
      let r = branches-idle (server + length ds) more visits bs fs pend h.2 (omega arith) in
      let s = sum-both n (λ p. sum_by (λ d. demand_at rows d all p) ds) (λ p. sum_by (λ d. demand_at rows d all p) (flat_map (λ ds. ds) more)) (λ p. sum_by (λ d. demand_at rows d all p) (ds ++ flat_map (λ ds. ds) more)) (λ p. sum_by-append (λ d. demand_at rows d all p) ds (flat_map (λ ds. ds) more)) in
      omega arith

-- the busy tally of a fork-join with nothing to finish is the sum of all that its visits asked for
pub forkjoining-busy_done : (rows : Rows) (demands : List (List Demand)) (v : ℕ) (visits : List Visit) (branches : List Branch) (emitted : List Emission) (now busy : ℕ) → ForkJoining rows demands v visits branches emitted [] now →
    busy + remaining now [] ≡ branches_begun rows visits (length visits) demands branches → busy ≡ sum_below (length visits) (λ p. sum_by (λ demand. demand_of_visit rows demand (slice_get visits p)) (flat_map (λ ds. ds) demands))
forkjoining-busy_done rows demands v visits branches emitted now busy h e =
    let most = most-staying rows v 0 now demands visits branches h.endeds (λ j. filter (is_at_server j) []) h.shape.some h.branching in
    let idle = branches-idle rows v visits (length visits) now 0 demands visits branches h.endeds (λ j. filter (is_at_server j) []) h.branching (most.0 ∙ (forkjoining-done rows demands v visits branches emitted now h).0) in
    omega arith
