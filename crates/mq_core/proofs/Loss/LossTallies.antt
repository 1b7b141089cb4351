-- What a loss station weighs, how many it holds, whom it lets out, and how it ends.
use Rattle.std.proofs.Common.{◌≡◌, ℕ, suc, ◌+◌, ◌*◌, ◌<◌, ◌≤◌, Bool, true, false, cond, ltb, List, [], ◌∷◌, ◌++◌, length, map, Some, sym, refl, ap, ◌∙◌, subst, arith}
use Rattle.std.proofs.Math.Nat.{suc-mul}
use Rattle.std.proofs.lemmas.List.{append-nil, length-map}
use Rattle.std.specs.Prelude.{slice_get}
use Rattle.std.specs.List.{AllByRecursion as Each}
use Rattle.mq_base.proofs.lemmas.Each.{Each-weaker}
use Rattle.mq_core.specs.Event.{Event, time_of, earliest, sooner_of}
use Rattle.mq_core.specs.Event.Event.{Arrive, Finish}
use Rattle.mq_core.specs.Machine.{Visit, Emission, emissions_of, emission_of}
use Rattle.mq_core.specs.Laws.{in_order_of}
use Rattle.mq_core.specs.Local.{Local}
use Rattle.mq_core.specs.Handling.{demand_of_job, latest, queues_up, passes_on, front_leaves}
use Rattle.mq_core.specs.Kinds.Loss.{loss_on}
use Rattle.mq_core.specs.OnceOut.{faring_from}
use Rattle.mq_core.specs.Recurrences.{loss_fates}
use Rattle.mq_core.specs.Tallies.{emission_at, staying, arrival_or}
use Rattle.mq_core.specs.declared.model.Demand.{Demand}
use Rattle.mq_core.specs.declared.model.Rows.{Rows}
use Rattle.mq_core.proofs.Loss.Loses.{Losing, ToLeave, front_finish, all_fared, front-emission}
use Rattle.mq_core.proofs.Loss.LossFlow.{has_place, fared-numbered, fared-fates}
use Rattle.mq_core.proofs.Counting.Released.{emission-one, times-one, queues_up-length, queues_up-emits, one-release, no_release}
use Rattle.mq_core.proofs.Counting.Reordered.{times_at, times_at-append, times_at-in_order, times_at-numbered, times_at-once, emission_at-in_order, staying-coming}
use Rattle.mq_core.proofs.Server.Serves.{latest-push, queues_up-releases, pair-inj}

-- an arrival either queues up, or is let out at once
pub loss-arrives : (P : ℕ → ℕ → Type 0) (rows : Rows) (places : ℕ) (demand : Demand) (local : Local) (visits : List Visit) (now port job v : ℕ) →
    P (suc (length local.queue)) 0 → ((out : ℕ) → out ≤ 1 → P (length local.queue) out) →
    P (length (loss_on rows places demand visits local now (Arrive now v port job)).local.queue) (length (emissions_of now visits (loss_on rows places demand visits local now (Arrive now v port job)).releases))
loss-arrives P rows places demand local visits now port job v in' out' = go (ltb (length local.queue) places)
  where
    go : (b : Bool) → P (length (cond b (queues_up rows demand visits local now local.queue (latest visits)) (passes_on local 1 (latest visits))).local.queue) (length (emissions_of now visits (cond b (queues_up rows demand visits local now local.queue (latest visits)) (passes_on local 1 (latest visits))).releases))
    go true =
        subst (λ n. P n (length (emissions_of now visits (queues_up rows demand visits local now local.queue (latest visits)).releases))) (sym (queues_up-length rows demand visits local now local.queue (latest visits)))
        (subst (P (suc (length local.queue))) (sym (ap length (queues_up-emits rows demand visits local now local.queue (latest visits)))) in')
    go false = out' (length (emission_of now 1 (latest visits) (slice_get visits (latest visits)) ++ [])) (emission-one now 1 (latest visits) (slice_get visits (latest visits)))

-- it weighs more than what it leaves
pub losing-arrives-falls : (rows : Rows) (places : ℕ) (demand : Demand) (onward : ℕ) (local : Local) (visits : List Visit) (now port job v : ℕ) →
    length (loss_on rows places demand visits local now (Arrive now v port job)).local.queue * (onward + 1) + length (emissions_of now visits (loss_on rows places demand visits local now (Arrive now v port job)).releases) * onward + 1 ≤ length local.queue * (onward + 1) + (onward + 9)
losing-arrives-falls rows places demand onward local visits now port job v =
    loss-arrives (λ n out. n * (onward + 1) + out * onward + 1 ≤ length local.queue * (onward + 1) + (onward + 9)) rows places demand local visits now port job v
    (let e = suc-mul (length local.queue) (onward + 1) in omega arith)
    (λ out l. let k = times-one out onward l in omega arith)

-- it brings one job in, which stays or is let out
pub losing-arrives-few : (rows : Rows) (places : ℕ) (demand : Demand) (local : Local) (visits : List Visit) (now port job v : ℕ) →
    length (loss_on rows places demand visits local now (Arrive now v port job)).local.queue + length (emissions_of now visits (loss_on rows places demand visits local now (Arrive now v port job)).releases) ≤ length local.queue + 1
losing-arrives-few rows places demand local visits now port job v =
    loss-arrives (λ n out. n + out ≤ length local.queue + 1) rows places demand local visits now port job v (omega arith) (λ out l. omega arith)

-- a finish weighs more than what it leaves
pub losing-ends-falls : (rows : Rows) (places : ℕ) (demand : Demand) (onward : ℕ) (rank : ℕ → ℕ) (v server position : ℕ) (local : Local) (visits : List Visit) (queue : List ℕ) (emitted : List Emission) (fs rest : List Event) (now : ℕ) → earliest rank fs ≡ Some (Finish now v server position, rest) → Losing rows places demand v visits queue emitted fs now →
    length (front_leaves rows demand visits local now queue).local.queue * (onward + 1) + length (emissions_of now visits (front_leaves rows demand visits local now queue).releases) * onward + 1 ≤ length queue * (onward + 1)
unfolding earliest
losing-ends-falls rows places demand onward rank v server position local visits queue emitted fs rest now first h = go h.coming h.waiting h.next
  where
    go : (coming : List Emission) → queue ≡ map (λ (m : Emission). m.position) coming → fs ≡ front_finish v coming → length (front_leaves rows demand visits local now queue).local.queue * (onward + 1) + length (emissions_of now visits (front_leaves rows demand visits local now queue).releases) * onward + 1 ≤ length queue * (onward + 1)
    go [] w n = let none = subst (λ l. earliest rank l ≡ Some (Finish now v server position, rest)) n first in absurd cc
    go (m ∷ ms) w n =
        let l = times-one _ onward (emission-one now 0 m.position (slice_get visits m.position)) in
        let k = suc-mul (length (map (λ (m : Emission). m.position) ms)) (onward + 1) in
        rw w (omega arith)

-- a finish lets out no more jobs than it takes from those inside
pub losing-ends-few : (rows : Rows) (demand : Demand) (visits : List Visit) (local : Local) (now : ℕ) → length (front_leaves rows demand visits local now local.queue).local.queue + length (emissions_of now visits (front_leaves rows demand visits local now local.queue).releases) ≤ length local.queue
losing-ends-few rows demand visits local now = serve local.queue refl
  where
    serve : (queue : List ℕ) → local.queue ≡ queue → length (front_leaves rows demand visits local now queue).local.queue + length (emissions_of now visits (front_leaves rows demand visits local now queue).releases) ≤ length queue
    serve [] e = let l = ap length e in omega arith
    serve (front ∷ queue) e = let l = emission-one now 0 front (slice_get visits front) in omega arith

-- each position was let out or is still to leave, once in all
pub losing-once : (rows : Rows) (places : ℕ) (demand : Demand) (v : ℕ) (visits : List Visit) (queue : List ℕ) (emitted : List Emission) (fs : List Event) (now : ℕ) → (h : Losing rows places demand v visits queue emitted fs now) → (p : ℕ) → p < length visits → times_at p emitted + times_at p h.coming ≡ 1
losing-once rows places demand v visits queue emitted fs now h p l =
    sym (times_at-append p emitted h.coming)
    ∙ (ap (times_at p) h.left
    ∙ (times_at-in_order (λ (m : Emission). m.time) p (all_fared rows places demand visits)
    ∙ times_at-numbered 0 p (all_fared rows places demand visits) visits (fared-numbered (has_place places) rows demand 0 [] visits) (omega arith) (omega arith)))

-- the number in it is that of the visits that haven't left
pub losing-number : (rows : Rows) (places : ℕ) (demand : Demand) (v : ℕ) (visits : List Visit) (queue : List ℕ) (emitted : List Emission) (fs : List Event) (now : ℕ) → Losing rows places demand v visits queue emitted fs now → length queue ≡ staying visits (emission_at emitted)
losing-number rows places demand v visits queue emitted fs now h =
    ap length h.waiting
    ∙ (length-map h.coming (λ (m : Emission). m.position)
    ∙ sym (staying-coming visits emitted h.coming (losing-once rows places demand v visits queue emitted fs now h) (Each-weaker _ _ (λ m k. k.inside) h.coming h.held)))

-- what is let out at an arrival is its own position
pub losing-own : (rows : Rows) (places : ℕ) (demand : Demand) (local : Local) (visits : List Visit) (x : Visit) (now port job v q : ℕ) (m : Emission) →
    emission_at (emissions_of now (visits ++ x ∷ []) (loss_on rows places demand (visits ++ x ∷ []) local now (Arrive now v port job)).releases) q ≡ Some m → q ≡ length visits
losing-own rows places demand local visits x now port job v q m e = go (ltb (length local.queue) places) e
  where
    go : (b : Bool) → emission_at (emissions_of now (visits ++ x ∷ []) (cond b (queues_up rows demand (visits ++ x ∷ []) local now local.queue (latest (visits ++ x ∷ []))) (passes_on local 1 (latest (visits ++ x ∷ [])))).releases) q ≡ Some m → q ≡ length visits
    go true e = absurd (no_release now q (visits ++ x ∷ []) _ m (queues_up-releases rows demand (visits ++ x ∷ []) local now local.queue (latest (visits ++ x ∷ []))) e)
    go false e = one-release now 1 (latest (visits ++ x ∷ [])) q (visits ++ x ∷ []) m e ∙ latest-push visits x

-- what is let out at a finish came before those that came at that moment
pub losing-earlier : (rows : Rows) (places : ℕ) (demand : Demand) (rank : ℕ → ℕ) (v server position : ℕ) (local : Local) (visits : List Visit) (queue : List ℕ) (emitted : List Emission) (fs rest : List Event) (now : ℕ) → earliest rank fs ≡ Some (Finish now v server position, rest) → Losing rows places demand v visits queue emitted fs now →
    (q p : ℕ) (m : Emission) → emission_at (emissions_of now visits (front_leaves rows demand visits local now queue).releases) q ≡ Some m → q < p → p < length visits → arrival_or 0 (slice_get visits p) < now
unfolding earliest sooner_of
losing-earlier rows places demand rank v server position local visits queue emitted fs rest now first h q p m e l u = go h.coming h.waiting h.next h.held
  where
    go : (coming : List Emission) → queue ≡ map (λ (m : Emission). m.position) coming → fs ≡ front_finish v coming → Each (ToLeave visits) coming → arrival_or 0 (slice_get visits p) < now
    go [] w n held = let none = subst (λ l. earliest rank l ≡ Some (Finish now v server position, rest)) n first in absurd cc
    go (k ∷ ms) w n held =
        let one = subst (λ l. earliest rank l ≡ Some (Finish now v server position, rest)) n first in
        let time : k.time ≡ now = ap time_of (pair-inj (Finish k.time v 0 k.position, []) (Finish now v server position, rest) one).0 in
        let index : q ≡ k.position = one-release now 0 k.position q visits m (subst (λ l. emission_at (emissions_of now visits (front_leaves rows demand visits local now l).releases) q ≡ Some m) w e) in
        let came = held.0.behind p (omega arith) u in
        omega arith

-- a finish lets its front out
pub losing-emits : (rows : Rows) (places : ℕ) (demand : Demand) (rank : ℕ → ℕ) (v server position : ℕ) (local : Local) (visits : List Visit) (queue : List ℕ) (emitted : List Emission) (fs rest : List Event) (now : ℕ) → earliest rank fs ≡ Some (Finish now v server position, rest) → Losing rows places demand v visits queue emitted fs now → (m : Emission) × (more : List Emission) × (emissions_of now visits (front_leaves rows demand visits local now queue).releases ≡ m ∷ more)
unfolding earliest sooner_of
losing-emits rows places demand rank v server position local visits queue emitted fs rest now first h = go h.coming h.waiting h.next h.held
  where
    go : (coming : List Emission) → queue ≡ map (λ (m : Emission). m.position) coming → fs ≡ front_finish v coming → Each (ToLeave visits) coming → (m : Emission) × (more : List Emission) × (emissions_of now visits (front_leaves rows demand visits local now queue).releases ≡ m ∷ more)
    go [] w n held = let none = subst (λ l. earliest rank l ≡ Some (Finish now v server position, rest)) n first in absurd cc
    go (m ∷ ms) w n held =
        let one = subst (λ l. earliest rank l ≡ Some (Finish now v server position, rest)) n first in
        let time : m.time ≡ now = ap time_of (pair-inj (Finish m.time v 0 m.position, []) (Finish now v server position, rest) one).0 in
        (m, [], ap (λ q. emissions_of now visits (front_leaves rows demand visits local now q).releases) w ∙ front-emission visits now m time held.0)

-- with nothing to finish it is empty, and let out all its visits in order of time
pub losing-done : (rows : Rows) (places : ℕ) (demand : Demand) (v : ℕ) (visits : List Visit) (queue : List ℕ) (emitted : List Emission) (now : ℕ) → Losing rows places demand v visits queue emitted [] now → (queue ≡ []) × (emitted ≡ in_order_of (λ (m : Emission). m.time) (all_fared rows places demand visits))
losing-done rows places demand v visits queue emitted now h = go h.coming h.left h.waiting h.next
  where
    go : (coming : List Emission) → emitted ++ coming ≡ in_order_of (λ (m : Emission). m.time) (all_fared rows places demand visits) → queue ≡ map (λ (m : Emission). m.position) coming → [] ≡ front_finish v coming → (queue ≡ []) × (emitted ≡ in_order_of (λ (m : Emission). m.time) (all_fared rows places demand visits))
    go [] a w n = (w, sym (append-nil emitted) ∙ a)
    go (m ∷ ms) a w n = absurd cc

-- each position is found as if all left by position
pub losing-same : (rows : Rows) (places : ℕ) (demand : Demand) (v : ℕ) (visits : List Visit) (queue : List ℕ) (emitted : List Emission) (now : ℕ) → Losing rows places demand v visits queue emitted [] now → (q : ℕ) → emission_at emitted q ≡ emission_at (all_fared rows places demand visits) q
losing-same rows places demand v visits queue emitted now h q =
    ap (λ l. emission_at l q) (losing-done rows places demand v visits queue emitted now h).1
    ∙ emission_at-in_order (λ (m : Emission). m.time) q (all_fared rows places demand visits) (times_at-once q (all_fared rows places demand visits) visits (fared-numbered (has_place places) rows demand 0 [] visits))

-- and those are its recurrence, by the rule that looks at the last departures
pub losing-flow : (rows : Rows) (places : ℕ) (demand : Demand) (v : ℕ) (visits : List Visit) (queue : List ℕ) (emitted : List Emission) (now : ℕ) → 1 ≤ places → Losing rows places demand v visits queue emitted [] now →
    emitted ≡ in_order_of (λ (m : Emission). m.time) (faring_from 0 (loss_fates places [] (map (λ (x : Visit). x.arrive) visits) (map (λ (x : Visit). demand_of_job rows demand x.job) visits)) visits)
losing-flow rows places demand v visits queue emitted now some h =
    (losing-done rows places demand v visits queue emitted now h).1
    ∙ ap (in_order_of (λ (m : Emission). m.time)) (fared-fates rows places demand 0 [] visits some tt)
