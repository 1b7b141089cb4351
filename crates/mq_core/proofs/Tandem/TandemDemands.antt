-- The sum of what a job asks for at the stages of a tandem, stage by stage.
use Rattle.std.proofs.Common.{◌≡◌, ℕ, zero, suc, ◌+◌, ◌*◌, ◌^◌, ◌≤◌, List, [], ◌∷◌, length, map, drop, Some, refl, ap, subst, arith}
use Rattle.std.proofs.Math.Nat.{suc-mul}
use Rattle.std.proofs.lemmas.List.{length-map}
use Rattle.std.specs.Prelude.{slice_get}
use Rattle.std.specs.List.{AllByRecursion as Each}
use Rattle.mq_core.specs.Told.{AreTold, HasDemand}
use Rattle.mq_core.specs.Handling.{demand_of_job, demand_of_stages}
use Rattle.mq_core.specs.declared.model.Demand.{Demand}
use Rattle.mq_core.specs.declared.model.Stage.{Stage}
use Rattle.mq_core.specs.declared.model.Rows.{Rows}
use Rattle.mq_base.proofs.lemmas.Lists.{some_inj}

-- what a stage is asked for
abbrev pub demand_at_stage : Stage → Demand
demand_at_stage stage = stage.demand

-- the demand at a stage, and those behind it
pub demands-at : (rows : Rows) (stages : List Stage) (job at : ℕ) (stage : Stage) → slice_get stages at ≡ Some stage → demand_of_stages rows (drop at stages) job ≡ demand_of_job rows stage.demand job + demand_of_stages rows (drop (suc at) stages) job
demands-at rows [] job at stage e = absurd cc
demands-at rows (s ∷ stages) job zero stage e = ap (λ (t : Stage). demand_of_job rows t.demand job + demand_of_stages rows stages job) (some_inj s stage e)
demands-at rows (s ∷ stages) job (suc at) stage e = demands-at rows stages job at stage e

-- the demand at a stage is told
pub demand-told : (rows : Rows) (stages : List Stage) (job at : ℕ) (stage : Stage) → slice_get stages at ≡ Some stage → Each (λ demand. HasDemand rows demand job) (map demand_at_stage stages) → HasDemand rows stage.demand job
demand-told rows [] job at stage e h = absurd cc
demand-told rows (s ∷ stages) job zero stage e h = subst (λ (t : Stage). HasDemand rows t.demand job) (some_inj s stage e) h.0
demand-told rows (s ∷ stages) job (suc at) stage e h = demand-told rows stages job at stage e h.1

sum-most : (rows : Rows) (stages : List Stage) (job : ℕ) → Each (λ demand. demand_of_job rows demand job ≤ 2 ^ 36) (map demand_at_stage stages) → demand_of_stages rows stages job ≤ length stages * 2 ^ 36
sum-most rows [] job h = omega arith
sum-most rows (s ∷ stages) job h =
    let a = h.0 in
    let b = sum-most rows stages job h.1 in
    let c = suc-mul (length stages) (2 ^ 36) in
    omega arith

-- the sum is in its limit
pub demands-most : (rows : Rows) (stages : List Stage) (job : ℕ) → AreTold rows (map demand_at_stage stages) job → demand_of_stages rows stages job ≤ 8 * 2 ^ 36
demands-most rows stages job h = let a = sum-most rows stages job h.small in let b = h.few in let c = length-map stages demand_at_stage in omega arith

-- past the last stage nothing is left
pub demands-end : (rows : Rows) (stages : List Stage) (job at : ℕ) → length stages ≤ at → demand_of_stages rows (drop at stages) job ≡ 0
demands-end rows [] job zero l = refl
demands-end rows [] job (suc at) l = refl
demands-end rows (s ∷ stages) job zero l = absurd (omega arith)
demands-end rows (s ∷ stages) job (suc at) l = demands-end rows stages job at (omega arith)
