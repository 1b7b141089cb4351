-- That what is handled at a port is the stream that it reads, in its order.
use Rattle.std.proofs.Common.{◌≡◌, ℕ, zero, suc, Bool, true, false, cond, eqb, List, [], ◌∷◌, ◌++◌, Option, Some, None, sym, refl, ap, ◌∙◌, subst, arith, eq-eqb, eqb-true, append_assoc}
use Rattle.std.proofs.lemmas.Bool.Decides.{nat_tests}
use Rattle.std.proofs.lemmas.List.Elements.{filter-append}
use Rattle.std.proofs.lemmas.List.{append-nil, map-append}
use Rattle.std.specs.Prelude.{filter, ◌&&◌}
use Rattle.mq_base.proofs.lemmas.Lists.{some_inj}
use Rattle.mq_base.proofs.lemmas.Each.{Each-map, Each-any, filter-none, filter-yes, filter-no, not_true}
use Rattle.mq_core.specs.Event.{Event, time_of, node_of, is_sooner, earliest}
use Rattle.mq_core.specs.Event.Event.{Arrive, Finish}
use Rattle.mq_core.specs.Machine.{Emission, Service, Table, State, Station, step, after, handled, happens, caused, arrivals_of, arrival_of, emissions_at, finishes_of, reaction, until, acted}
use Rattle.mq_core.proofs.Events.Tables.{IsWired}
use Rattle.mq_core.specs.Laws.{port_of, is_arrival_at, stream_of, brought}
use Rattle.mq_core.proofs.Events.Pending.{filter-earliest_alike, filter-earliest_other}
use Rattle.mq_core.proofs.Events.Steps.{step-some, step-none, handled-zero, handled-some, handled-none, after-zero, after-some, after-none}
use Rattle.mq_core.proofs.Events.Forward.{Each-arrivals}

abbrev added_if : {L : Type 0} → Table L → State L → Option (Event × List Event) → List Event
added_if t s None = []
added_if t s (Some p) = caused t (until t s (time_of p.0) (node_of p.0)) p.0

-- the events that this many steps add
pub added : {L : Type 0} → ℕ → Table L → State L → List Event
added zero t s = []
added (suc n) t s = added_if t s (earliest t.rank s.pending) ++ added n t (step t s)

added-zero : {L : Type 0} (t : Table L) (s : State L) → added zero t s ≡ []
unfolding added
added-zero t s = refl

added-some : {L : Type 0} (n : ℕ) (t : Table L) (s : State L) (p : Event × List Event) → earliest t.rank s.pending ≡ Some p → added (suc n) t s ≡ caused t (until t s (time_of p.0) (node_of p.0)) p.0 ++ added n t (happens t s p)
unfolding added
added-some n t s p h = rw (step-some t s p h) (rw h refl)

added-none : {L : Type 0} (n : ℕ) (t : Table L) (s : State L) → earliest t.rank s.pending ≡ None → added n t s ≡ []
unfolding added
added-none zero t s h = refl
added-none (suc n) t s h = rw (step-none t s h) (rw h (added-none n t s h))

-- alike events are handled in the order in which they became pending
pub handled-in_order : {L : Type 0} (t : Table L) (test : Event → Bool) → ((e f : Event) → test e ≡ true → test f ≡ true → is_sooner t.rank e f ≡ false) → (n : ℕ) (s : State L) → filter test (handled n t s) ++ filter test (after n t s).pending ≡ filter test s.pending ++ filter test (added n t s)
handled-in_order t test alike zero s = rw (handled-zero t s, after-zero t s, added-zero t s) (sym (append-nil (filter test s.pending)))
handled-in_order {L} t test alike (suc n) s = go (earliest t.rank s.pending) refl (handled-in_order t test alike n)
  where
    go : (r : Option (Event × List Event)) → earliest t.rank s.pending ≡ r → ((s' : State L) → filter test (handled n t s') ++ filter test (after n t s').pending ≡ filter test s'.pending ++ filter test (added n t s')) → filter test (handled (suc n) t s) ++ filter test (after (suc n) t s).pending ≡ filter test s.pending ++ filter test (added (suc n) t s)
    go None q ih = rw (handled-none (suc n) t s q, after-none (suc n) t s q, added-none (suc n) t s q) (sym (append-nil (filter test s.pending)))
    go (Some p) q ih = rw (handled-some n t s p q, after-some n t s p q, added-some n t s p q) (more (test p.0) refl)
      where
        new : List Event
        new = caused t (until t s (time_of p.0) (node_of p.0)) p.0

        rest : filter test (handled n t (happens t s p)) ++ filter test (after n t (happens t s p)).pending ≡ filter test p.1 ++ filter test (new ++ added n t (happens t s p))
        rest = ih (happens t s p) ∙ (ap (λ l. l ++ filter test (added n t (happens t s p))) (filter-append test p.1 new) ∙ (append_assoc (filter test p.1) (filter test new) (filter test (added n t (happens t s p))) ∙ ap (λ l. filter test p.1 ++ l) (sym (filter-append test new (added n t (happens t s p))))))

        more : (b : Bool) → test p.0 ≡ b → filter test (p.0 ∷ handled n t (happens t s p)) ++ filter test (after n t (happens t s p)).pending ≡ filter test s.pending ++ filter test (new ++ added n t (happens t s p))
        more true h = rw (filter-yes test p.0 (handled n t (happens t s p)) h, filter-earliest_alike t.rank test alike s.pending p q h) (ap (λ l. p.0 ∷ l) rest)
        more false h = rw (filter-no test p.0 (handled n t (happens t s p)) h, filter-earliest_other t.rank test s.pending p q h) rest

-- an arrival at this port of this node
abbrev pub is_at_port : ℕ → ℕ → Event → Bool
is_at_port v q e = is_arrival_at v e && eqb (port_of e) q

no_finish : (v q n : ℕ) (services : List Service) → filter (is_at_port v q) (finishes_of n services) ≡ []
no_finish v q n services = filter-none (is_at_port v q) (finishes_of n services) (Each-map (λ _. Unit {0}) (λ f. is_at_port v q f ≡ false) (λ s. Finish s.time n s.server s.position) (λ s _. refl) services (Each-any _ (λ _. tt) services))

pair_is : (to : ℕ × ℕ) (v q : ℕ) → (eqb to.0 v && eqb to.1 q) ≡ true → to ≡ (v, q)
pair_is to v q h =
    let a : to.0 ≡ v = grind (arith, nat_tests) in
    let b : to.1 ≡ q = grind (arith, nat_tests) in
    λ i. (a i, b i)

-- what an event adds at a port that reads no output of its node
other_arrivals : {L : Type 0} (t : Table L) (s : Station L) (e : Event) (v q : ℕ) → ((out : ℕ) → t.reader (node_of e) out ≡ Some (v, q) → ⊥) → filter (is_at_port v q) (caused t s e) ≡ []
other_arrivals t s e v q h =
    filter-append (is_at_port v q) (arrivals_of t (node_of e) (emissions_at t s e)) (finishes_of (node_of e) (reaction t s e).services)
    ∙ (ap (λ l. l ++ filter (is_at_port v q) (finishes_of (node_of e) (reaction t s e).services))
    (filter-none (is_at_port v q) _ (Each-arrivals t s e (λ f. is_at_port v q f ≡ false) (λ out port node job r. not_true (eqb node v && eqb port q) (λ k. h out (r ∙ ap Some (pair_is (node, port) v q k))))))
    ∙ no_finish v q (node_of e) (reaction t s e).services)

-- what emissions of a node add at a port that reads one of its outputs
own_arrivals : {L : Type 0} (t : Table L) (n out v q : ℕ) → t.reader n out ≡ Some (v, q) → ((other : ℕ) → t.reader n other ≡ Some (v, q) → other ≡ out) → (ms : List Emission) → filter (is_at_port v q) (arrivals_of t n ms) ≡ brought v q (stream_of out ms)
own_arrivals t n out v q h alone [] = refl
own_arrivals t n out v q h alone (m ∷ ms) = go (eqb m.out out) refl (own_arrivals t n out v q h alone ms)
  where
    go : (b : Bool) → eqb m.out out ≡ b → filter (is_at_port v q) (arrivals_of t n ms) ≡ brought v q (stream_of out ms) → filter (is_at_port v q) (arrival_of m.time m.job (t.reader n m.out) ++ arrivals_of t n ms) ≡ brought v q (cond b (m ∷ stream_of out ms) (stream_of out ms))
    go true e ih =
        let same : t.reader n m.out ≡ Some (v, q) = subst (λ o. t.reader n o ≡ Some (v, q)) (sym (eqb-true m.out out e)) h in
        rw same (filter-yes (is_at_port v q) (Arrive m.time v q m.job) (arrivals_of t n ms) (rw (eq-eqb v v refl, eq-eqb q q refl) refl) ∙ ap (λ l. Arrive m.time v q m.job ∷ l) ih)
    go false e ih = more (t.reader n m.out) refl
      where
        more : (r : Option (ℕ × ℕ)) → t.reader n m.out ≡ r → filter (is_at_port v q) (arrival_of m.time m.job r ++ arrivals_of t n ms) ≡ brought v q (stream_of out ms)
        more None k = ih
        more (Some to) k =
            filter-no (is_at_port v q) (Arrive m.time to.0 to.1 m.job) (arrivals_of t n ms)
            (not_true (eqb to.0 v && eqb to.1 q) (λ u. let c : t.reader n m.out ≡ Some (v, q) = k ∙ ap Some (pair_is to v q u) in let d = alone m.out c in let f = eq-eqb m.out out d in absurd cc))
            ∙ ih

-- what an event does to the emissions of a node
emitted_after : {L : Type 0} (t : Table L) (s : State L) (p : Event × List Event) (u : ℕ) → ((happens t s p).stations u).emitted ≡ cond (eqb u (node_of p.0)) ((s.stations u).emitted ++ emissions_at t (until t s (time_of p.0) u) p.0) (s.stations u).emitted
emitted_after t s p u = go (eqb u (node_of p.0))
  where
    go : (b : Bool) → (cond b (acted t (until t s (time_of p.0) u) p.0) (until t s (time_of p.0) u)).emitted ≡ cond b ((s.stations u).emitted ++ emissions_at t (until t s (time_of p.0) u) p.0) (s.stations u).emitted
    go true = refl
    go false = refl

brought-append : (v q out : ℕ) (xs ys : List Emission) → brought v q (stream_of out (xs ++ ys)) ≡ brought v q (stream_of out xs) ++ brought v q (stream_of out ys)
brought-append v q out xs ys = ap (brought v q) (filter-append (λ m. eqb m.out out) xs ys) ∙ map-append (λ m. Arrive m.time v q m.job) (stream_of out xs) (stream_of out ys)

-- what an event brings to a port that reads output out of u
stream_after : {L : Type 0} (t : Table L) (inputs : ℕ → List (ℕ × ℕ)) → IsWired t inputs → (u out v q : ℕ) → t.reader u out ≡ Some (v, q) → (s : State L) (p : Event × List Event) → brought v q (stream_of out ((happens t s p).stations u).emitted) ≡ brought v q (stream_of out (s.stations u).emitted) ++ filter (is_at_port v q) (caused t (until t s (time_of p.0) (node_of p.0)) p.0)
stream_after {L} t inputs wired u out v q h s p = rw (emitted_after t s p u) (go (eqb u (node_of p.0)) refl)
  where
    st : ℕ → Station L
    st = until t s (time_of p.0)

    one : (n other : ℕ) → t.reader n other ≡ Some (v, q) → (n ≡ u) × (other ≡ out)
    one n other k =
        let a : Some (n, other) ≡ Some (u, out) = sym (wired.reads n other v q k) ∙ wired.reads u out v q h in
        let b : (n, other) ≡ (u, out) = some_inj {A = ℕ × ℕ} (n, other) (u, out) a in
        (ap (λ (x : ℕ × ℕ). x.0) b, ap (λ (x : ℕ × ℕ). x.1) b)

    go : (b : Bool) → eqb u (node_of p.0) ≡ b → brought v q (stream_of out (cond b ((s.stations u).emitted ++ emissions_at t (until t s (time_of p.0) u) p.0) (s.stations u).emitted)) ≡ brought v q (stream_of out (s.stations u).emitted) ++ filter (is_at_port v q) (caused t (until t s (time_of p.0) (node_of p.0)) p.0)
    go true e =
        let same : u ≡ node_of p.0 = eqb-true u (node_of p.0) e in
        let own = own_arrivals t u out v q h (λ other k. (one u other k).1) (emissions_at t (st u) p.0) in
        let moved : filter (is_at_port v q) (arrivals_of t u (emissions_at t (st u) p.0)) ≡ filter (is_at_port v q) (arrivals_of t (node_of p.0) (emissions_at t (st (node_of p.0)) p.0)) =
        subst (λ n. filter (is_at_port v q) (arrivals_of t u (emissions_at t (st u) p.0)) ≡ filter (is_at_port v q) (arrivals_of t n (emissions_at t (st n) p.0))) same refl in
        let whole : filter (is_at_port v q) (caused t (st (node_of p.0)) p.0) ≡ filter (is_at_port v q) (arrivals_of t (node_of p.0) (emissions_at t (st (node_of p.0)) p.0)) =
        filter-append (is_at_port v q) (arrivals_of t (node_of p.0) (emissions_at t (st (node_of p.0)) p.0)) (finishes_of (node_of p.0) (reaction t (st (node_of p.0)) p.0).services)
        ∙ (ap (λ l. filter (is_at_port v q) (arrivals_of t (node_of p.0) (emissions_at t (st (node_of p.0)) p.0)) ++ l) (no_finish v q (node_of p.0) (reaction t (st (node_of p.0)) p.0).services)
        ∙ append-nil _) in
        brought-append v q out (s.stations u).emitted (emissions_at t (st u) p.0)
        ∙ ap (λ l. brought v q (stream_of out (s.stations u).emitted) ++ l) (sym own ∙ (moved ∙ sym whole))
    go false e =
        let none : filter (is_at_port v q) (caused t (st (node_of p.0)) p.0) ≡ [] =
        other_arrivals t (st (node_of p.0)) p.0 v q (λ other k. let a = (one (node_of p.0) other k).0 in let b = eq-eqb u (node_of p.0) (sym a) in absurd cc) in
        sym (ap (λ l. brought v q (stream_of out (s.stations u).emitted) ++ l) none ∙ append-nil _)

-- what a number of steps brings to a port that reads an output
pub stream-added : {L : Type 0} (t : Table L) (inputs : ℕ → List (ℕ × ℕ)) → IsWired t inputs → (u out v q : ℕ) → t.reader u out ≡ Some (v, q) → (n : ℕ) (s : State L) → brought v q (stream_of out ((after n t s).stations u).emitted) ≡ brought v q (stream_of out (s.stations u).emitted) ++ filter (is_at_port v q) (added n t s)
stream-added t inputs wired u out v q h zero s = rw (after-zero t s, added-zero t s) (sym (append-nil _))
stream-added {L} t inputs wired u out v q h (suc n) s = go (earliest t.rank s.pending) refl (stream-added t inputs wired u out v q h n)
  where
    go : (r : Option (Event × List Event)) → earliest t.rank s.pending ≡ r → ((s' : State L) → brought v q (stream_of out ((after n t s').stations u).emitted) ≡ brought v q (stream_of out (s'.stations u).emitted) ++ filter (is_at_port v q) (added n t s')) → brought v q (stream_of out ((after (suc n) t s).stations u).emitted) ≡ brought v q (stream_of out (s.stations u).emitted) ++ filter (is_at_port v q) (added (suc n) t s)
    go None k ih = rw (after-none (suc n) t s k, added-none (suc n) t s k) (sym (append-nil (brought v q (stream_of out (s.stations u).emitted))))
    go (Some p) k ih =
        rw (after-some n t s p k, added-some n t s p k)
        (ih (happens t s p)
        ∙ (ap (λ l. l ++ filter (is_at_port v q) (added n t (happens t s p))) (stream_after t inputs wired u out v q h s p)
        ∙ (append_assoc (brought v q (stream_of out (s.stations u).emitted)) (filter (is_at_port v q) (caused t (until t s (time_of p.0) (node_of p.0)) p.0)) (filter (is_at_port v q) (added n t (happens t s p)))
        ∙ ap (λ l. brought v q (stream_of out (s.stations u).emitted) ++ l) (sym (filter-append (is_at_port v q) (caused t (until t s (time_of p.0) (node_of p.0)) p.0) (added n t (happens t s p)))))))

-- nothing comes to a port that reads nothing
pub none-added : {L : Type 0} (t : Table L) (v q : ℕ) → ((u out : ℕ) → t.reader u out ≡ Some (v, q) → ⊥) → (n : ℕ) (s : State L) → filter (is_at_port v q) (added n t s) ≡ []
none-added t v q h zero s = rw (added-zero t s) refl
none-added {L} t v q h (suc n) s = go (earliest t.rank s.pending) refl (none-added t v q h n)
  where
    go : (r : Option (Event × List Event)) → earliest t.rank s.pending ≡ r → ((s' : State L) → filter (is_at_port v q) (added n t s') ≡ []) → filter (is_at_port v q) (added (suc n) t s) ≡ []
    go None k ih = rw (added-none (suc n) t s k) refl
    go (Some p) k ih =
        rw (added-some n t s p k)
        (filter-append (is_at_port v q) (caused t (until t s (time_of p.0) (node_of p.0)) p.0) (added n t (happens t s p))
        ∙ (ap (λ l. l ++ filter (is_at_port v q) (added n t (happens t s p))) (other_arrivals t (until t s (time_of p.0) (node_of p.0)) p.0 v q (λ out. h (node_of p.0) out))
        ∙ ih (happens t s p)))
