-- What jobs ask for at several servers, one server after another.
use Rattle.std.proofs.Common.{◌≡◌, ℕ, zero, suc, ◌+◌, ◌*◌, ◌^◌, ◌≤◌, List, [], ◌∷◌, drop, length, map, Some, sum_by, ap, ◌∙◌, subst, arith}
use Rattle.std.specs.Prelude.{slice_get}
use Rattle.std.specs.List.{AllByRecursion as Each}
use Rattle.std.proofs.Math.Nat.{suc-mul}
use Rattle.std.proofs.lemmas.List.{length-map}
use Rattle.std.proofs.lemmas.List.Sums.{sum_by-cons}
use Rattle.mq_base.proofs.lemmas.Lists.{drop_at, some_inj}
use Rattle.mq_core.specs.Handling.{demand_of_job, demand_of_stages}
use Rattle.mq_core.specs.Told.{AreTold, HasDemand}
use Rattle.mq_core.specs.declared.model.Demand.{Demand}
use Rattle.mq_core.specs.declared.model.Rows.{Rows}
use Rattle.mq_core.specs.declared.model.Stage.{Stage}

-- Servers of a branch. What is left from an index on, and from the next.
pub demand-at : (rows : Rows) (demands : List Demand) (job i : ℕ) (d : Demand) → slice_get demands i ≡ Some d →
    sum_by (λ demand. demand_of_job rows demand job) (drop i demands) ≡ demand_of_job rows d job + sum_by (λ demand. demand_of_job rows demand job) (drop (i + 1) demands)
demand-at rows demands job i d e =
    ap (sum_by (λ demand. demand_of_job rows demand job)) (drop_at demands i d e) ∙ sum_by-cons (λ demand. demand_of_job rows demand job) d (drop (i + 1) demands)

-- the most that a job asks for at a branch
abbrev pub longest_of : Rows → List (List Demand) → ℕ → List ℕ
longest_of rows branches job = map (λ demands. sum_by (λ demand. demand_of_job rows demand job) demands) branches

-- Stages. The demand at one, and those behind it.
pub stage-at : (rows : Rows) (stages : List Stage) (job i : ℕ) (stage : Stage) → slice_get stages i ≡ Some stage → demand_of_stages rows (drop i stages) job ≡ demand_of_job rows stage.demand job + demand_of_stages rows (drop (i + 1) stages) job
stage-at rows stages job i stage e = ap (λ l. demand_of_stages rows l job) (drop_at stages i stage e)

-- it is told
pub stage-told : (rows : Rows) (stages : List Stage) (job i : ℕ) (stage : Stage) → slice_get stages i ≡ Some stage → Each (λ demand. HasDemand rows demand job) (map (λ (s : Stage). s.demand) stages) → HasDemand rows stage.demand job
stage-told rows [] job i stage e h = absurd cc
stage-told rows (s ∷ stages) job zero stage e h = subst (λ (t : Stage). HasDemand rows t.demand job) (some_inj s stage e) h.0
stage-told rows (s ∷ stages) job (suc i) stage e h = stage-told rows stages job i stage e h.1

stages-sum : (rows : Rows) (stages : List Stage) (job : ℕ) → Each (λ demand. demand_of_job rows demand job ≤ 2 ^ 36) (map (λ (s : Stage). s.demand) stages) → demand_of_stages rows stages job ≤ length stages * 2 ^ 36
stages-sum rows [] job h = omega arith
stages-sum rows (s ∷ stages) job h =
    let a = h.0 in
    let b = stages-sum rows stages job h.1 in
    let c = suc-mul (length stages) (2 ^ 36) in
    omega arith

-- no sum passes 2^39
pub stages-most : (rows : Rows) (stages : List Stage) (job : ℕ) → AreTold rows (map (λ (s : Stage). s.demand) stages) job → demand_of_stages rows stages job ≤ 8 * 2 ^ 36
stages-most rows stages job h = let a = stages-sum rows stages job h.small in let b = h.few in let c = length-map stages (λ (s : Stage). s.demand) in omega arith
