-- That events never go back in time, nor at one time in rank.
use Rattle.std.proofs.Common.{◌≡◌, ℕ, zero, suc, ◌<◌, ◌≤◌, false, List, ◌∷◌, Option, Some, None, sym, refl, subst, arith}
use Rattle.std.specs.Prelude.{slice_get, IfSome}
use Rattle.std.specs.List.{AllByRecursion as Each}
use Rattle.mq_base.proofs.lemmas.Each.{Each-append, Each-front, Each-back, Each-weaker, Each-flat_map, Each-map, Each-any}
use Rattle.mq_core.specs.Event.{Event, time_of, node_of, is_sooner, order_key, earliest}
use Rattle.mq_core.specs.Event.Event.{Arrive, Finish}
use Rattle.mq_core.specs.Machine.{Visit, Emission, Release, Service, Table, State, Station, handled, happens, caused, arrivals_of, arrival_of, emission_of, emissions_at, finishes_of, reaction, visits_after, until}
use Rattle.mq_core.specs.Laws.{IsNoEarlier, GoesForward}
use Rattle.mq_core.proofs.Events.Tables.{IsPunctual, IsFeedForward}
use Rattle.mq_core.proofs.Lists.Order.{not_below-cons}
use Rattle.mq_core.proofs.Events.Pending.{earliest-splits, Splits-least}
use Rattle.mq_core.proofs.Events.Steps.{handled-zero, handled-some, handled-none}

-- what is not sooner is no earlier
pub no_earlier : (rank : ℕ → ℕ) (e f : Event) → is_sooner rank f e ≡ false → IsNoEarlier rank e f
unfolding order_key
no_earlier rank (Arrive t n q j) (Arrive t' n' q' j') h = let p = not_below-cons _ _ _ _ h in (p.0, λ e. (not_below-cons _ _ _ _ (p.1 (sym e))).0)
no_earlier rank (Arrive t n q j) (Finish t' n' q' j') h = let p = not_below-cons _ _ _ _ h in (p.0, λ e. (not_below-cons _ _ _ _ (p.1 (sym e))).0)
no_earlier rank (Finish t n q j) (Arrive t' n' q' j') h = let p = not_below-cons _ _ _ _ h in (p.0, λ e. (not_below-cons _ _ _ _ (p.1 (sym e))).0)
no_earlier rank (Finish t n q j) (Finish t' n' q' j') h = let p = not_below-cons _ _ _ _ h in (p.0, λ e. (not_below-cons _ _ _ _ (p.1 (sym e))).0)

pub no_earlier_trans : (rank : ℕ → ℕ) (d e f : Event) → IsNoEarlier rank d e → IsNoEarlier rank e f → IsNoEarlier rank d f
no_earlier_trans rank d e f h k = (omega arith, λ q. omega arith)

-- each emission of an event has its time
emission-now : (now : ℕ) (visits : List Visit) (r : Release) → Each (λ (e : Emission). e.time ≡ now) (emission_of now r.out r.position (slice_get visits r.position))
emission-now now visits r = go (slice_get visits r.position)
  where
    go : (v : Option Visit) → Each (λ (e : Emission). e.time ≡ now) (emission_of now r.out r.position v)
    go None = tt
    go (Some v) = (refl, tt)

pub emissions-now : {L : Type 0} (t : Table L) (s : Station L) (e : Event) → Each (λ (m : Emission). m.time ≡ time_of e) (emissions_at t s e)
emissions-now t s e =
    Each-flat_map (λ _. Unit {0}) _ _ (λ r _. emission-now (time_of e) (visits_after t s e) r) _ (Each-any _ (λ _. tt) (reaction t s e).releases)

-- a fact of each arrival that an event causes: it is at the time of the event, at a reader of its node
pub Each-arrivals : {L : Type 0} (t : Table L) (s : Station L) (e : Event) (P : Event → Type 0) → ((out port node job : ℕ) → t.reader (node_of e) out ≡ Some (node, port) → P (Arrive (time_of e) node port job)) → Each P (arrivals_of t (node_of e) (emissions_at t s e))
Each-arrivals t s e P h =
    Each-flat_map (λ (m : Emission). m.time ≡ time_of e) P (λ m. arrival_of m.time m.job (t.reader (node_of e) m.out))
    (λ m q. go m q (t.reader (node_of e) m.out) refl)
    (emissions_at t s e) (emissions-now t s e)
  where
    go : (m : Emission) → m.time ≡ time_of e → (r : Option (ℕ × ℕ)) → t.reader (node_of e) m.out ≡ r → Each P (arrival_of m.time m.job r)
    go m q None k = tt
    go m q (Some to) k = (rw q (h m.out to.1 to.0 m.job k), tt)

pub Each-finishes : {L : Type 0} (t : Table L) (s : Station L) (e : Event) (P : Event → Type 0) → IsPunctual t → ((time server position : ℕ) → time_of e ≤ time → P (Finish time (node_of e) server position)) → Each P (finishes_of (node_of e) (reaction t s e).services)
Each-finishes t s e P on_time h =
    Each-map (λ (v : Service). time_of e ≤ v.time) P _ (λ v q. h v.time v.server v.position q) (reaction t s e).services
    (on_time (node_of e) (visits_after t s e) s.local (time_of e) e)

-- an event causes no earlier one
pub caused-no_earlier : {L : Type 0} (t : Table L) → IsPunctual t → IsFeedForward t → (s : Station L) (e : Event) → Each (IsNoEarlier t.rank e) (caused t s e)
caused-no_earlier t on_time forward s e =
    Each-append _ (arrivals_of t (node_of e) (emissions_at t s e)) _
    (Each-arrivals t s e (IsNoEarlier t.rank e) (λ out port node job r. let up : t.rank (node_of e) < t.rank node = subst (λ o. IfSome o (λ to. t.rank (node_of e) < t.rank to.0)) r (forward (node_of e) out) in (omega arith, λ _. omega arith)))
    (Each-finishes t s e (IsNoEarlier t.rank e) on_time (λ time server position q. (q, λ _. omega arith)))

-- what is pending after an event is no earlier than the event
pub pending-no_earlier : {L : Type 0} (t : Table L) → IsPunctual t → IsFeedForward t → (s : State L) (p : Event × List Event) → earliest t.rank s.pending ≡ Some p → Each (IsNoEarlier t.rank p.0) (happens t s p).pending
pending-no_earlier t on_time forward s p h =
    let k = earliest-splits t.rank s.pending p h in
    let least = subst (Each (λ f. is_sooner t.rank f p.0 ≡ false)) k.whole (Splits-least t.rank s.pending p k) in
    let left : Each (λ f. is_sooner t.rank f p.0 ≡ false) p.1 =
    subst (Each (λ f. is_sooner t.rank f p.0 ≡ false)) (sym k.left) (Each-append _ k.front k.back (Each-front _ k.front (p.0 ∷ k.back) least) (Each-back _ k.front (p.0 ∷ k.back) least).1) in
    Each-append _ p.1 _ (Each-weaker _ _ (λ f q. no_earlier t.rank p.0 f q) p.1 left) (caused-no_earlier t on_time forward (until t s (time_of p.0) (node_of p.0)) p.0)

-- a bound from below on what is pending is one on what will be handled
pub handled-no_earlier : {L : Type 0} (t : Table L) → IsPunctual t → IsFeedForward t → (n : ℕ) (s : State L) (e : Event) → Each (IsNoEarlier t.rank e) s.pending → Each (IsNoEarlier t.rank e) (handled n t s)
handled-no_earlier t on_time forward zero s e h = rw handled-zero tt
handled-no_earlier {L} t on_time forward (suc n) s e h = go (earliest t.rank s.pending) refl (λ s' k. handled-no_earlier t on_time forward n s' e k)
  where
    go : (r : Option (Event × List Event)) → earliest t.rank s.pending ≡ r → ((s' : State L) → Each (IsNoEarlier t.rank e) s'.pending → Each (IsNoEarlier t.rank e) (handled n t s')) → Each (IsNoEarlier t.rank e) (handled (suc n) t s)
    go None q ih = rw (handled-none (suc n) t s q) tt
    go (Some p) q ih =
        let k = earliest-splits t.rank s.pending p q in
        let here : IsNoEarlier t.rank e p.0 = (Each-back (IsNoEarlier t.rank e) k.front (p.0 ∷ k.back) (subst (Each (IsNoEarlier t.rank e)) k.whole h)).0 in
        rw (handled-some n t s p q)
        (here, ih (happens t s p) (Each-weaker _ _ (λ f m. no_earlier_trans t.rank e p.0 f here m) _ (pending-no_earlier t on_time forward s p q)))

-- the handled events go forward
pub handled-forward : {L : Type 0} (t : Table L) → IsPunctual t → IsFeedForward t → (n : ℕ) (s : State L) → GoesForward t.rank (handled n t s)
handled-forward t on_time forward zero s = rw handled-zero tt
handled-forward {L} t on_time forward (suc n) s = go (earliest t.rank s.pending) refl (handled-forward t on_time forward n)
  where
    go : (r : Option (Event × List Event)) → earliest t.rank s.pending ≡ r → ((s' : State L) → GoesForward t.rank (handled n t s')) → GoesForward t.rank (handled (suc n) t s)
    go None q ih = rw (handled-none (suc n) t s q) tt
    go (Some p) q ih =
        rw (handled-some n t s p q)
        (handled-no_earlier t on_time forward n (happens t s p) p.0 (pending-no_earlier t on_time forward s p q), ih (happens t s p))
