-- How many blocks are done again: no more than there are, and none where the rows are the same.
use Rattle.std.proofs.Common.{◌==◌, ◌&&◌, ◌≡◌, ◌+◌, ◌-◌, ◌/◌, ℕ, suc, ◌≤◌, Bool, true, false, cond, List, [], ◌∷◌, length, Option, None, Some, slice_get, refl, sym, ◌∙◌, arith, eq-eqb}
use Rattle.std.specs.Prelude.{sum_by}
use Rattle.std.specs.List.{list_all}
use Rattle.std.proofs.lemmas.List.{length-map}
use Rattle.std.proofs.lemmas.List.Sums.{sum_by-cons, sum_by-le-sum_by}
use Rattle.mq_core.specs.Handling.{demand_of_job}
use Rattle.mq_core.specs.Kinds.Split.{route_value}
use Rattle.mq_core.specs.NetworkRun.{run_in}
use Rattle.mq_core.specs.Wiring.{ranking}
use Rattle.mq_core.specs.declared.model.Demand.{Demand}
use Rattle.mq_core.specs.declared.model.Kind.{Kind}
use Rattle.mq_core.specs.declared.model.Kind.TheVariants.{Delay, Fork, ForkJoin, Join, Loss, Server, Source, Split, Tandem, Trunk}
use Rattle.mq_core.specs.declared.model.Network.{Network}
use Rattle.mq_core.specs.declared.model.Node.{Node}
use Rattle.mq_core.specs.declared.model.Rows.{Rows}
use Rattle.mq_core.specs.declared.model.Stage.{Stage}
use Rattle.mq_alike.specs.Again.{AgainIsBounded, Coming, again_at, again_of, alike, alike_from, asks_same, blocks_in, blocks_of, coming_in, is_counted, is_worked, same_demand, same_visit, worked_of}

-- of one node
at-within : (block : ℕ) (kind : Kind) (old new : Coming) → again_at block kind old new ≤ blocks_in block (length new.job)
at-within block kind old new = go ((alike kind old new == length old.job) && (alike kind old new == length new.job))
  where
    go : (b : Bool) → cond b 0 (blocks_in block (length new.job) - alike kind old new / block) ≤ blocks_in block (length new.job)
    go true = omega arith
    go false = omega arith

node-within : (block : ℕ) (node : Option Node) (old new : Coming) → again_of block node old new ≤ blocks_of block node new
node-within block None old new = omega arith
node-within block (Some node) old new = go (is_counted node.kind) (at-within block node.kind old new)
  where
    go : (b : Bool) → again_at block node.kind old new ≤ blocks_in block (length new.job) → cond b (again_at block node.kind old new) 0 ≤ cond b (blocks_in block (length new.job)) 0
    go true h = h
    go false h = omega arith

-- what is worked is counted
pub worked-within : (block : ℕ) (node : Option Node) (old new : Coming) → worked_of block node old new ≤ again_of block node old new
worked-within block None old new = omega arith
worked-within block (Some node) old new = go (is_worked node.kind) (is_counted node.kind) (both node.kind)
  where
    both : (kind : Kind) → is_worked kind ≡ true → is_counted kind ≡ true
    both Source e = refl
    both (Server demand) e = refl
    both (Delay demand) e = refl
    both (Loss places demand) e = e
    both (Tandem stages) e = refl
    both (ForkJoin branches) e = refl
    both (Split route) e = refl
    both (Fork outputs) e = e
    both Join e = e
    both (Trunk servers demand) e = e

    go : (a b : Bool) → (a ≡ true → b ≡ true) → cond a (again_at block node.kind old new) 0 ≤ cond b (again_at block node.kind old new) 0
    go true true h = omega arith
    go true false h = absurd (let e = h refl in cc)
    go false b h = omega arith

-- a job asks for the same by the same rows
stages-self : (rows : Rows) (job : ℕ) (stages : List Stage) → list_all (λ (stage : Stage). same_demand rows rows job stage.demand) stages ≡ true
stages-self rows job [] = refl
stages-self rows job (stage ∷ stages) = (λ i. eq-eqb (demand_of_job rows stage.demand job) (demand_of_job rows stage.demand job) refl i && stages-self rows job stages i)

demands-self : (rows : Rows) (job : ℕ) (demands : List Demand) → list_all (same_demand rows rows job) demands ≡ true
demands-self rows job [] = refl
demands-self rows job (demand ∷ demands) = (λ i. eq-eqb (demand_of_job rows demand job) (demand_of_job rows demand job) refl i && demands-self rows job demands i)

branches-self : (rows : Rows) (job : ℕ) (branches : List (List Demand)) → list_all (λ demands. list_all (same_demand rows rows job) demands) branches ≡ true
branches-self rows job [] = refl
branches-self rows job (demands ∷ branches) = (λ i. demands-self rows job demands i && branches-self rows job branches i)

asks-self : (rows : Rows) (kind : Kind) (job : ℕ) → asks_same rows rows kind job ≡ true
asks-self rows Source job = refl
asks-self rows (Server demand) job = eq-eqb (demand_of_job rows demand job) (demand_of_job rows demand job) refl
asks-self rows (Delay demand) job = eq-eqb (demand_of_job rows demand job) (demand_of_job rows demand job) refl
asks-self rows (Loss places demand) job = eq-eqb (demand_of_job rows demand job) (demand_of_job rows demand job) refl
asks-self rows (Tandem stages) job = stages-self rows job stages
asks-self rows (ForkJoin branches) job = branches-self rows job branches
asks-self rows (Split route) job = eq-eqb (route_value rows route job) (route_value rows route job) refl
asks-self rows (Fork outputs) job = refl
asks-self rows Join job = refl
asks-self rows (Trunk servers demand) job = eq-eqb (demand_of_job rows demand job) (demand_of_job rows demand job) refl

visit-self : (kind : Kind) (rows : Rows) (job arrive : ℕ) → same_visit kind rows job arrive rows job arrive ≡ true
visit-self kind rows job arrive = (λ i. eq-eqb job job refl i && (eq-eqb arrive arrive refl i && asks-self rows kind job i))

alike-self : (kind : Kind) (rows : Rows) (jobs arrives : List ℕ) → length arrives ≡ length jobs → alike_from kind rows jobs arrives rows jobs arrives ≡ length jobs
alike-self kind rows [] arrives e = refl
alike-self kind rows (job ∷ jobs) [] e = absurd (omega arith)
alike-self kind rows (job ∷ jobs) (arrive ∷ arrives) e = (λ i. cond (visit-self kind rows job arrive i) (suc (alike-self kind rows jobs arrives (omega arith) i)) 0)

at-none : (block : ℕ) (kind : Kind) (came : Coming) → length came.arrive ≡ length came.job → again_at block kind came came ≡ 0
at-none block kind came e =
    let same : (alike kind came came == length came.job) ≡ true = eq-eqb (alike kind came came) (length came.job) (alike-self kind came.rows came.job came.arrive e) in
    (λ i. cond (same i && same i) 0 (blocks_in block (length came.job) - alike kind came came / block))

node-none : (block : ℕ) (node : Option Node) (came : Coming) → length came.arrive ≡ length came.job → again_of block node came came ≡ 0
node-none block None came e = refl
node-none block (Some node) came e = go (is_counted node.kind) (at-none block node.kind came e)
  where
    go : (b : Bool) → again_at block node.kind came came ≡ 0 → cond b (again_at block node.kind came came) 0 ≡ 0
    go true h = h
    go false h = refl

zeros : (f : ℕ → ℕ) (xs : List ℕ) → ((x : ℕ) → f x ≡ 0) → sum_by f xs ≡ 0
zeros f [] h = refl
zeros f (x ∷ xs) h = sum_by-cons f x xs ∙ (λ i. h x i + zeros f xs h i)

-- as many times as jobs come to a node
came-even : (net : Network) (rows : Rows) (v : ℕ) → length (coming_in net rows v).arrive ≡ length (coming_in net rows v).job
came-even net rows v =
    let visits = ((run_in net rows).stations v).visits in
    length-map visits (λ x. x.arrive) ∙ sym (length-map visits (λ x. x.job))

pub bounded : AgainIsBounded
bounded = record {
  within = λ net old new block. sum_by-le-sum_by (λ v. again_of block (slice_get net.nodes v) (coming_in net old v) (coming_in net new v)) (λ v. blocks_of block (slice_get net.nodes v) (coming_in net new v)) (ranking net.nodes) (λ v. node-within block (slice_get net.nodes v) (coming_in net old v) (coming_in net new v));
  none = λ net rows block. zeros (λ v. again_of block (slice_get net.nodes v) (coming_in net rows v) (coming_in net rows v)) (ranking net.nodes) (λ v. node-none block (slice_get net.nodes v) (coming_in net rows v) (came-even net rows v));
  worked_within = λ net old new block. sum_by-le-sum_by (λ v. worked_of block (slice_get net.nodes v) (coming_in net old v) (coming_in net new v)) (λ v. again_of block (slice_get net.nodes v) (coming_in net old v) (coming_in net new v)) (ranking net.nodes) (λ v. worked-within block (slice_get net.nodes v) (coming_in net old v) (coming_in net new v));
}
