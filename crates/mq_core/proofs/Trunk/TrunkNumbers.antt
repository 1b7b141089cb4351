-- What a trunk group weighs, how many it holds, whom it lets out, and how busy it is.
use Rattle.std.proofs.Common.{◌≡◌, ℕ, suc, ◌+◌, ◌*◌, ◌<◌, ◌≤◌, Bool, true, false, cond, eqb, ltb, List, [], ◌∷◌, ◌++◌, length, Option, None, Some, ap, ◌∙◌, refl, subst, arith, length-append}
use Rattle.std.proofs.Math.Nat.{suc-mul}
use Rattle.std.proofs.lemmas.List.{append-nil}
use Rattle.std.specs.Prelude.{slice_get}
use Rattle.std.specs.List.{AllByRecursion as Each}
use Rattle.std.specs.Option.{option_map}
use Rattle.mq_core.specs.Event.{Event, time_of}
use Rattle.mq_core.specs.Event.Event.{Arrive}
use Rattle.mq_core.specs.Machine.{Visit, Emission, emissions_of, emission_of, finishes_of}
use Rattle.mq_core.specs.Local.{Local}
use Rattle.mq_core.specs.Fates.{fate_by, unless_lost}
use Rattle.mq_core.specs.Handling.{demand_of_job, demand_of_visit, latest, passes_on}
use Rattle.mq_core.specs.OnceOut.{faring_by}
use Rattle.mq_core.specs.Kinds.Trunk.{joins_service, trunk_on}
use Rattle.mq_core.specs.Tallies.{emission_at, sum_below}
use Rattle.mq_core.specs.declared.model.Demand.{Demand}
use Rattle.mq_core.specs.declared.model.Fate.TheVariants.{Departs, Lost}
use Rattle.mq_core.specs.declared.model.Kind.TheVariants.{Trunk}
use Rattle.mq_core.specs.declared.model.Rows.{Rows}
use Rattle.mq_core.proofs.Counting.Released.{emission-one, one-release, times-one}
use Rattle.mq_core.proofs.Counting.Reordered.{emission_at-in_order, times_at-once}
use Rattle.mq_core.proofs.Delay.Schedules.{scheduling-done}
use Rattle.mq_core.proofs.Delay.ScheduleNumbers.{remaining-joins}
use Rattle.mq_core.proofs.Events.Areas.{sum-same}
use Rattle.mq_core.proofs.Events.Remaining.{remaining}
use Rattle.mq_core.proofs.Loss.LossBusy.{unless_out, work, work-below, work-push}
use Rattle.mq_core.proofs.Loss.LossFlow.{fate_if}
use Rattle.mq_core.proofs.Server.Serves.{latest-push}
use Rattle.mq_core.proofs.Trunk.TrunkFlow.{flow-numbered, served_by, trunk_flow}
use Rattle.mq_core.proofs.Trunk.Trunks.{Trunking, flow-grows}

-- an arrival either begins its service, or is let out at once
pub trunk-arrives : (P : ℕ → ℕ → Type 0) (rows : Rows) (servers : ℕ) (demand : Demand) (local : Local) (visits : List Visit) (now port job v : ℕ) →
    P (suc (length local.scheduled)) 0 → ((out : ℕ) → out ≤ 1 → P (length local.scheduled) out) →
    P (length (trunk_on rows servers demand visits local now (Arrive now v port job)).local.scheduled) (length (emissions_of now visits (trunk_on rows servers demand visits local now (Arrive now v port job)).releases))
trunk-arrives P rows servers demand local visits now port job v in' out' = go (ltb (length local.scheduled) servers)
  where
    go : (b : Bool) → P (length (cond b (joins_service rows demand visits local now (latest visits)) (passes_on local 1 (latest visits))).local.scheduled) (length (emissions_of now visits (cond b (joins_service rows demand visits local now (latest visits)) (passes_on local 1 (latest visits))).releases))
    go true = subst (λ n. P n 0) (omega (arith, length-append local.scheduled (latest visits ∷ []))) in'
    go false = out' (length (emission_of now 1 (latest visits) (slice_get visits (latest visits)) ++ [])) (emission-one now 1 (latest visits) (slice_get visits (latest visits)))

-- it weighs more than what it leaves
pub trunk-arrives-falls : (rows : Rows) (servers : ℕ) (demand : Demand) (onward : ℕ) (local : Local) (visits : List Visit) (now port job v : ℕ) →
    length (trunk_on rows servers demand visits local now (Arrive now v port job)).local.scheduled * (onward + 1) + length (emissions_of now visits (trunk_on rows servers demand visits local now (Arrive now v port job)).releases) * onward + 1 ≤ length local.scheduled * (onward + 1) + (onward + 9)
trunk-arrives-falls rows servers demand onward local visits now port job v =
    trunk-arrives (λ n out. n * (onward + 1) + out * onward + 1 ≤ length local.scheduled * (onward + 1) + (onward + 9)) rows servers demand local visits now port job v
    (let e = suc-mul (length local.scheduled) (onward + 1) in omega arith)
    (λ out l. let k = times-one out onward l in omega arith)

-- it brings one job in, which stays or is let out
pub trunk-arrives-few : (rows : Rows) (servers : ℕ) (demand : Demand) (local : Local) (visits : List Visit) (now port job v : ℕ) →
    length (trunk_on rows servers demand visits local now (Arrive now v port job)).local.scheduled + length (emissions_of now visits (trunk_on rows servers demand visits local now (Arrive now v port job)).releases) ≤ length local.scheduled + 1
trunk-arrives-few rows servers demand local visits now port job v =
    trunk-arrives (λ n out. n + out ≤ length local.scheduled + 1) rows servers demand local visits now port job v (omega arith) (λ out l. omega arith)

-- what is let out at an arrival is its own position
pub trunk-arrives-own : (rows : Rows) (servers : ℕ) (demand : Demand) (local : Local) (visits : List Visit) (x : Visit) (now port job v q : ℕ) (m : Emission) →
    emission_at (emissions_of now (visits ++ x ∷ []) (trunk_on rows servers demand (visits ++ x ∷ []) local now (Arrive now v port job)).releases) q ≡ Some m → q ≡ length visits
trunk-arrives-own rows servers demand local visits x now port job v q m e = go (ltb (length local.scheduled) servers) e
  where
    go : (b : Bool) → emission_at (emissions_of now (visits ++ x ∷ []) (cond b (joins_service rows demand (visits ++ x ∷ []) local now (latest (visits ++ x ∷ []))) (passes_on local 1 (latest (visits ++ x ∷ [])))).releases) q ≡ Some m → q ≡ length visits
    go true e = absurd cc
    go false e = one-release now 1 (latest (visits ++ x ∷ [])) q (visits ++ x ∷ []) m e ∙ latest-push visits x

-- at a trunk group those are lost that leave by output 1
pub lost-by_out : (servers : ℕ) (demand : Demand) (o : Option Emission) (n : ℕ) → unless_out o n ≡ unless_lost (option_map (fate_by (Trunk servers demand)) o) n
lost-by_out servers demand None n = refl
lost-by_out servers demand (Some m) n = go (eqb m.out 1)
  where
    go : (b : Bool) → cond b 0 n ≡ unless_lost (Some (cond b Lost (Departs m.time))) n
    go true = refl
    go false = refl

-- what the servers have worked, and what is left of the services, are all that was asked of the group
abbrev pub TrunkBusy : Rows → ℕ → Demand → List Visit → List Event → ℕ → ℕ → Type 0
TrunkBusy rows servers demand visits fs now busy = busy + remaining now fs ≡ work rows demand (trunk_flow rows servers demand visits)

-- a visit keeps this
pub trunk-busy_arrives : (rows : Rows) (servers : ℕ) (demand : Demand) (v port : ℕ) (local : Local) (visits : List Visit) (emitted : List Emission) (fs : List Event) (now busy : ℕ) (x : Visit) → x.arrive ≡ now → Each (λ f. now < time_of f) fs → Trunking rows servers demand v visits local.scheduled emitted fs now → TrunkBusy rows servers demand visits fs now busy →
    TrunkBusy rows servers demand (visits ++ x ∷ []) (fs ++ finishes_of v (trunk_on rows servers demand (visits ++ x ∷ []) local now (Arrive now v port x.job)).services) now busy
trunk-busy_arrives rows servers demand v port local visits emitted fs now busy x at soon h e = go (ltb (length local.scheduled) servers) refl
  where
    -- all that was asked, with one visit more
    more : (b : Bool) → ltb (length local.scheduled) servers ≡ b → work rows demand (trunk_flow rows servers demand (visits ++ x ∷ [])) ≡ work rows demand (trunk_flow rows servers demand visits) + cond b (demand_of_job rows demand x.job) 0
    more b f =
        ap (work rows demand) (flow-grows rows servers demand v visits local.scheduled emitted fs now h x at soon b f)
        ∙ (work-push rows demand (trunk_flow rows servers demand visits) _ ∙ ap (λ n. work rows demand (trunk_flow rows servers demand visits) + n) (own b))
      where
        own : (c : Bool) → cond (eqb (faring_by (length visits) (fate_if c (served_by rows demand x)) x).out 1) 0 (demand_of_job rows demand (faring_by (length visits) (fate_if c (served_by rows demand x)) x).job) ≡ cond c (demand_of_job rows demand x.job) 0
        own true = refl
        own false = refl

    go : (b : Bool) → ltb (length local.scheduled) servers ≡ b → TrunkBusy rows servers demand (visits ++ x ∷ []) (fs ++ finishes_of v (cond b (joins_service rows demand (visits ++ x ∷ []) local now (latest (visits ++ x ∷ []))) (passes_on local 1 (latest (visits ++ x ∷ [])))).services) now busy
    go true f =
        let a = more true f in
        let b = remaining-joins rows demand v visits fs now x in
        omega arith
    go false f =
        let a = more false f in
        let b = ap (remaining now) (append-nil fs) in
        omega arith

-- with nothing to finish it has worked all that was asked of it
pub trunk-busy_done : (rows : Rows) (servers : ℕ) (demand : Demand) (v : ℕ) (visits : List Visit) (scheduled : List ℕ) (emitted : List Emission) (now busy : ℕ) → Trunking rows servers demand v visits scheduled emitted [] now → TrunkBusy rows servers demand visits [] now busy → busy ≡ sum_below (length visits) (λ p. unless_out (emission_at emitted p) (demand_of_visit rows demand (slice_get visits p)))
trunk-busy_done rows servers demand v visits scheduled emitted now busy h e =
    let a = work-below rows demand 0 (trunk_flow rows servers demand visits) visits emitted (flow-numbered rows servers demand visits) (λ q l. same q) in
    let b = sum-same (length visits) (λ p. unless_out (emission_at emitted (0 + p)) (demand_of_visit rows demand (slice_get visits p))) (λ p. unless_out (emission_at emitted p) (demand_of_visit rows demand (slice_get visits p))) (λ p l. let z : 0 + p ≡ p = omega arith in ap (λ q. unless_out (emission_at emitted q) (demand_of_visit rows demand (slice_get visits p))) z) in
    omega arith
  where
    -- each position is found as if all left by position
    same : (q : ℕ) → emission_at emitted q ≡ emission_at (trunk_flow rows servers demand visits) q
    same q =
        ap (λ l. emission_at l q) (scheduling-done (trunk_flow rows servers demand visits) v visits scheduled emitted now h.at_once).1
        ∙ emission_at-in_order (λ (m : Emission). m.time) q (trunk_flow rows servers demand visits) (times_at-once q (trunk_flow rows servers demand visits) visits (flow-numbered rows servers demand visits))
