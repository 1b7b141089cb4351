-- That a node does in the network what it does alone.
use Rattle.std.proofs.Common.{◌≡◌, ◌⊎◌, inl, inr, ℕ, zero, suc, ◌+◌, ◌-◌, ◌*◌, ◌≤◌, Bool, true, false, cond, eqb, List, [], ◌∷◌, ◌++◌, length, Option, Some, None, sym, refl, ap, ◌∙◌, subst, arith, eq-eqb, eqb-true, append_assoc, add-zero, zero-add}
use Rattle.std.proofs.Math.Nat.{mul-add}
use Rattle.std.proofs.lemmas.Bool.Decides.{nat_tests}
use Rattle.std.proofs.lemmas.List.Elements.{filter-append}
use Rattle.std.proofs.lemmas.List.{append-nil}
use Rattle.std.specs.Prelude.{filter}
use Rattle.std.specs.List.{AllByRecursion as Each}
use Rattle.mq_base.proofs.lemmas.Each.{Each-append, Each-back, Each-weaker, Each-map, Each-any, Each-filter, Each-filter_if, filter-none, filter-all, filter-yes, filter-no}
use Rattle.mq_core.specs.Event.{Event, time_of, node_of, is_sooner, is_below, order_key, earliest}
use Rattle.mq_core.specs.Event.Event.{Arrive, Finish}
use Rattle.mq_core.specs.Machine.{Emission, Service, Table, State, Station, step, after, handled, happens, caused, arrivals_of, emissions_at, finishes_of, reaction, until, acted, opened}
use Rattle.mq_core.specs.Laws.{NotBefore, IsNoEarlier, is_arrival_at, is_finish_at, alone, count_at, IsSameAt, lone_after}
use Rattle.mq_core.proofs.Events.Tables.{IsPunctual, IsFeedForward}
use Rattle.mq_core.proofs.Lists.Order.{below-irrefl, not_below-intro, below-lt}
use Rattle.mq_core.proofs.Events.Pending.{earliest-splits, Splits-least, splits-earliest, earliest-filter, filter-earliest_other, earliest-append}
use Rattle.mq_core.proofs.Events.Steps.{handled-zero, handled-some, handled-none, step-some, after-some, after-none, after-zero, after-suc, station-other, station-own}
use Rattle.mq_core.proofs.Events.Forward.{Each-arrivals, pending-no_earlier, handled-no_earlier}
use Rattle.mq_core.proofs.Events.Second.{arrivals-later, pending-not_before}

-- of two arrivals at a node, what isn't before isn't sooner
not_before-sooner : (rank : ℕ → ℕ) (v : ℕ) (e f : Event) → is_arrival_at v e ≡ true → is_arrival_at v f ≡ true → NotBefore e f → is_sooner rank f e ≡ false
unfolding order_key
not_before-sooner rank v (Finish t n q j) f a b h = absurd cc
not_before-sooner rank v (Arrive t n q j) (Finish t' n' q' j') a b h = absurd cc
not_before-sooner rank v (Arrive t n q j) (Arrive t' n' q' j') a b h =
    let same : n' ≡ n = eqb-true n' v b ∙ sym (eqb-true n v a) in
    not_below-intro t' t _ _ h.0 (λ e. not_below-intro (rank n') (rank n) _ _ (omega (arith, ap rank same)) (λ _. not_below-intro 1 1 _ _ (omega arith) (λ _. not_below-intro q' q [] [] (h.1 (sym e)) (λ _. below-irrefl []))))

below-first : (x y : ℕ) (xs ys : List ℕ) → x ≤ y → (x ≡ y → is_below xs ys ≡ true) → is_below (x ∷ xs) (y ∷ ys) ≡ true
unfolding is_below
below-first x y xs ys h k = grind (arith, nat_tests)

-- a finish at a node is sooner than an arrival there that is no earlier
finish-sooner : (rank : ℕ → ℕ) (v : ℕ) (e f : Event) → is_finish_at v e ≡ true → is_arrival_at v f ≡ true → IsNoEarlier rank e f → is_sooner rank e f ≡ true
unfolding order_key
finish-sooner rank v (Arrive t n q j) f a b h = absurd cc
finish-sooner rank v (Finish t n q j) (Finish t' n' q' j') a b h = absurd cc
finish-sooner rank v (Finish t n q j) (Arrive t' n' q' j') a b h =
    let same : n ≡ n' = eqb-true n v a ∙ sym (eqb-true n' v b) in
    below-first t t' _ _ h.0 (λ e. below-first (rank n) (rank n') _ _ (omega (arith, ap rank same)) (λ _. below-lt 0 1 _ _ (omega arith)))

elapsed : (a b j c d now : ℕ) → a ≡ b + j * (c - d) → d ≤ c → c ≤ now → a + j * (now - c) ≡ b + j * (now - d)
elapsed a b j c d now h k l =
    let whole : now - d ≡ (now - c) + (c - d) = omega arith in
    rw (whole, mul-add j (now - c) (c - d)) (omega arith)

-- the state follows the lone one at v, where this many steps are left: what the lone run has still to come are the arrivals that these steps handle
record Follows {L : Type 0} (t : Table L) (v m : ℕ) (s lone : State L) : Type 0 where
  local : (s.stations v).local ≡ (lone.stations v).local
  visits : (s.stations v).visits ≡ (lone.stations v).visits
  emitted : (s.stations v).emitted ≡ (lone.stations v).emitted
  left : lone.pending ≡ filter (is_arrival_at v) (handled m t s) ++ filter (is_finish_at v) s.pending
  clock : lone.clock ≤ s.clock
  current : Each (λ f. s.clock ≤ time_of f) s.pending
  area : (s.stations v).area ≡ (lone.stations v).area + t.jobs v (lone.stations v).visits (lone.stations v).local * (s.clock - lone.clock)
  busy : (s.stations v).busy ≡ (lone.stations v).busy + t.working v (lone.stations v).visits (lone.stations v).local * (s.clock - lone.clock)

-- an event isn't before the clock
pub now-current : {L : Type 0} (t : Table L) (s : State L) (p : Event × List Event) → earliest t.rank s.pending ≡ Some p → Each (λ f. s.clock ≤ time_of f) s.pending → s.clock ≤ time_of p.0
now-current t s p q h =
    let k = earliest-splits t.rank s.pending p q in
    (Each-back (λ f. s.clock ≤ time_of f) k.front (p.0 ∷ k.back) (subst (Each (λ f. s.clock ≤ time_of f)) k.whole h)).0

station_same : {L : Type 0} (x y : Station L) → x.local ≡ y.local → x.visits ≡ y.visits → x.emitted ≡ y.emitted → x.area ≡ y.area → x.busy ≡ y.busy → x ≡ y
station_same x y a b c d e = λ i. record { local = a i; visits = b i; emitted = c i; area = d i; busy = e i }

-- just before an event the node is the same in both runs
until-same : {L : Type 0} (t : Table L) (v m now : ℕ) (s lone : State L) → Follows t v m s lone → s.clock ≤ now → until t s now v ≡ until (alone t) lone now v
until-same t v m now s lone f h =
    station_same (until t s now v) (until (alone t) lone now v) f.local f.visits f.emitted
    (ap (λ k. (s.stations v).area + k * (now - s.clock)) (λ i. t.jobs v (f.visits i) (f.local i)) ∙ elapsed _ _ (t.jobs v (lone.stations v).visits (lone.stations v).local) s.clock lone.clock now f.area f.clock h)
    (ap (λ k. (s.stations v).busy + k * (now - s.clock)) (λ i. t.working v (f.visits i) (f.local i)) ∙ elapsed _ _ (t.working v (lone.stations v).visits (lone.stations v).local) s.clock lone.clock now f.busy f.clock h)

no_arrivals : {L : Type 0} (t : Table L) (n : ℕ) (ms : List Emission) → arrivals_of (alone t) n ms ≡ []
no_arrivals t n [] = refl
no_arrivals t n (m ∷ ms) = no_arrivals t n ms

-- the finishes of a node among what an event adds
pub finishes-caused : {L : Type 0} (t : Table L) (v : ℕ) (s : Station L) (e : Event) → node_of e ≡ v → filter (is_finish_at v) (caused t s e) ≡ finishes_of (node_of e) (reaction t s e).services
finishes-caused t v s e h =
    filter-append (is_finish_at v) (arrivals_of t (node_of e) (emissions_at t s e)) (finishes_of (node_of e) (reaction t s e).services)
    ∙ (ap (λ l. l ++ filter (is_finish_at v) (finishes_of (node_of e) (reaction t s e).services)) (filter-none (is_finish_at v) _ (Each-arrivals t s e (λ f. is_finish_at v f ≡ false) (λ out port node job r. refl)))
    ∙ filter-all (is_finish_at v) _ (Each-map (λ _. Unit {0}) (λ f. is_finish_at v f ≡ true) (λ (x : Service). Finish x.time (node_of e) x.server x.position) (λ x _. eq-eqb (node_of e) v h) (reaction t s e).services (Each-any _ (λ _. tt) (reaction t s e).services)))

pub no_finishes-caused : {L : Type 0} (t : Table L) (v : ℕ) (s : Station L) (e : Event) → eqb (node_of e) v ≡ false → filter (is_finish_at v) (caused t s e) ≡ []
no_finishes-caused t v s e h =
    filter-append (is_finish_at v) (arrivals_of t (node_of e) (emissions_at t s e)) (finishes_of (node_of e) (reaction t s e).services)
    ∙ (ap (λ l. l ++ filter (is_finish_at v) (finishes_of (node_of e) (reaction t s e).services)) (filter-none (is_finish_at v) _ (Each-arrivals t s e (λ f. is_finish_at v f ≡ false) (λ out port node job r. refl)))
    ∙ filter-none (is_finish_at v) _ (Each-map (λ _. Unit {0}) (λ f. is_finish_at v f ≡ false) (λ (x : Service). Finish x.time (node_of e) x.server x.position) (λ x _. h) (reaction t s e).services (Each-any _ (λ _. tt) (reaction t s e).services)))

pub finishes-pending : {L : Type 0} (t : Table L) (v : ℕ) (s : State L) (p : Event × List Event) → filter (is_finish_at v) (happens t s p).pending ≡ filter (is_finish_at v) p.1 ++ filter (is_finish_at v) (caused t (until t s (time_of p.0) (node_of p.0)) p.0)
finishes-pending t v s p = filter-append (is_finish_at v) p.1 (caused t (until t s (time_of p.0) (node_of p.0)) p.0)

pub eqb-swap : (a b : ℕ) (c : Bool) → eqb a b ≡ c → eqb b a ≡ c
eqb-swap a b true h = eq-eqb b a (sym (eqb-true a b h))
eqb-swap a b false h = grind (arith, nat_tests)

no_time : (a k n : ℕ) → a ≡ a + k * (n - n)
no_time a k n = let z : n - n ≡ 0 = omega arith in rw z (omega arith)

pub elsewhere : (v : ℕ) (e : Event) → eqb (node_of e) v ≡ false → (is_arrival_at v e ≡ false) × (is_finish_at v e ≡ false)
elsewhere v (Arrive t n q j) h = (h, refl)
elsewhere v (Finish t n q j) h = (refl, h)

-- an event elsewhere
follows-other : {L : Type 0} (t : Table L) → IsPunctual t → IsFeedForward t → (v m : ℕ) (s lone : State L) (p : Event × List Event) → earliest t.rank s.pending ≡ Some p → eqb (node_of p.0) v ≡ false → Follows t v (suc m) s lone → Follows t v m (happens t s p) lone
follows-other t on_time forward v m s lone p q other f =
    let now = now-current t s p q f.current in
    let here = station-other t s p v (eqb-swap (node_of p.0) v false other) in
    let same : (happens t s p).stations v ≡ until (alone t) lone (time_of p.0) v = here ∙ until-same t v (suc m) (time_of p.0) s lone f now in
    let come : filter (is_arrival_at v) (handled (suc m) t s) ≡ filter (is_arrival_at v) (handled m t (happens t s p)) =
    ap (filter (is_arrival_at v)) (handled-some m t s p q) ∙ filter-no (is_arrival_at v) p.0 (handled m t (happens t s p)) (elsewhere v p.0 other).0 in
    let finish : filter (is_finish_at v) s.pending ≡ filter (is_finish_at v) (happens t s p).pending =
    filter-earliest_other t.rank (is_finish_at v) s.pending p q (elsewhere v p.0 other).1
    ∙ sym (finishes-pending t v s p ∙ (ap (λ l. filter (is_finish_at v) p.1 ++ l) (no_finishes-caused t v (until t s (time_of p.0) (node_of p.0)) p.0 other) ∙ append-nil _)) in
    let in_time = f.clock in
    record {
      local = ap (λ (x : Station _). x.local) same;
      visits = ap (λ (x : Station _). x.visits) same;
      emitted = ap (λ (x : Station _). x.emitted) same;
      left = f.left ∙ (ap (λ l. l ++ filter (is_finish_at v) s.pending) come ∙ ap (λ l. filter (is_arrival_at v) (handled m t (happens t s p)) ++ l) finish);
      clock = omega arith;
      current = Each-weaker _ _ (λ g k. k.0) (happens t s p).pending (pending-no_earlier t on_time forward s p q);
      area = ap (λ (x : Station _). x.area) same;
      busy = ap (λ (x : Station _). x.busy) same;
    }

own-kind : (v : ℕ) (e : Event) → eqb (node_of e) v ≡ true → ((is_arrival_at v e ≡ true) × (is_finish_at v e ≡ false)) ⊎ ((is_arrival_at v e ≡ false) × (is_finish_at v e ≡ true))
own-kind v (Arrive t n q j) h = inl (h, refl)
own-kind v (Finish t n q j) h = inr (refl, h)

-- the next event of the node is what the lone run handles next
next-own : {L : Type 0} (t : Table L) → IsPunctual t → IsFeedForward t → (v m : ℕ) (s lone : State L) (p : Event × List Event) → earliest t.rank s.pending ≡ Some p → eqb (node_of p.0) v ≡ true → lone.pending ≡ filter (is_arrival_at v) (handled (suc m) t s) ++ filter (is_finish_at v) s.pending → earliest t.rank lone.pending ≡ Some (p.0, filter (is_arrival_at v) (handled m t (happens t s p)) ++ filter (is_finish_at v) p.1)
next-own t on_time forward v m s lone p q own left = rw left (rw (handled-some m t s p q) (go (own-kind v p.0 own)))
  where
    to_come : List Event
    to_come = handled m t (happens t s p)

    go : ((is_arrival_at v p.0 ≡ true) × (is_finish_at v p.0 ≡ false)) ⊎ ((is_arrival_at v p.0 ≡ false) × (is_finish_at v p.0 ≡ true)) → earliest t.rank (filter (is_arrival_at v) (p.0 ∷ to_come) ++ filter (is_finish_at v) s.pending) ≡ Some (p.0, filter (is_arrival_at v) to_come ++ filter (is_finish_at v) p.1)
    go (inl h) =
        rw (filter-yes (is_arrival_at v) p.0 to_come h.0, ← filter-earliest_other t.rank (is_finish_at v) s.pending p q h.1)
        (splits-earliest t.rank [] (filter (is_arrival_at v) to_come ++ filter (is_finish_at v) s.pending) p.0 tt
        (Each-append _ (filter (is_arrival_at v) to_come) (filter (is_finish_at v) s.pending)
        (Each-filter_if _ (is_arrival_at v) to_come (Each-weaker _ _ (λ f k b. not_before-sooner t.rank v p.0 f h.0 b (k b)) to_come (arrivals-later t on_time forward v p.0 h.0 m (happens t s p) (pending-no_earlier t on_time forward s p q) (pending-not_before t on_time forward v s p q h.0))))
        (Each-filter _ (is_finish_at v) s.pending (Splits-least t.rank s.pending p (earliest-splits t.rank s.pending p q)))))
    go (inr h) =
        rw (filter-no (is_arrival_at v) p.0 to_come h.0)
        (earliest-append t.rank (filter (is_arrival_at v) to_come) (filter (is_finish_at v) s.pending) (p.0, filter (is_finish_at v) p.1)
        (earliest-filter t.rank (is_finish_at v) s.pending p q h.1)
        (Each-filter_if _ (is_arrival_at v) to_come (Each-weaker _ _ (λ f k b. finish-sooner t.rank v p.0 f h.1 b k) to_come (handled-no_earlier t on_time forward m (happens t s p) p.0 (pending-no_earlier t on_time forward s p q)))))

-- an event at the node
follows-own : {L : Type 0} (t : Table L) → IsPunctual t → IsFeedForward t → (v m : ℕ) (s lone : State L) (p : Event × List Event) → earliest t.rank s.pending ≡ Some p → eqb (node_of p.0) v ≡ true → Follows t v (suc m) s lone → Follows t v m (happens t s p) (step (alone t) lone)
follows-own t on_time forward v m s lone p q own f =
    subst (Follows t v m (happens t s p)) (sym (step-some (alone t) lone both (next-own t on_time forward v m s lone p q own f.left)))
    (record {
      local = ap (λ (x : Station _). x.local) same;
      visits = ap (λ (x : Station _). x.visits) same;
      emitted = ap (λ (x : Station _). x.emitted) same;
      left =
          append_assoc (filter (is_arrival_at v) (handled m t (happens t s p))) (filter (is_finish_at v) p.1) (caused (alone t) (until (alone t) lone (time_of p.0) (node_of p.0)) p.0)
          ∙ ap (λ l. filter (is_arrival_at v) (handled m t (happens t s p)) ++ l)
          (ap (λ l. filter (is_finish_at v) p.1 ++ l) new
          ∙ sym (finishes-pending t v s p ∙ ap (λ l. filter (is_finish_at v) p.1 ++ l) (finishes-caused t v (until t s (time_of p.0) (node_of p.0)) p.0 node)));
      clock = omega arith;
      current = Each-weaker _ _ (λ g k. k.0) (happens t s p).pending (pending-no_earlier t on_time forward s p q);
      area = ap (λ (x : Station _). x.area) same ∙ no_time _ _ (time_of p.0);
      busy = ap (λ (x : Station _). x.busy) same ∙ no_time _ _ (time_of p.0);
    })
  where
    both : Event × List Event
    both = (p.0, filter (is_arrival_at v) (handled m t (happens t s p)) ++ filter (is_finish_at v) p.1)

    now : s.clock ≤ time_of p.0
    now = now-current t s p q f.current

    here : eqb v (node_of p.0) ≡ true
    here = eqb-swap (node_of p.0) v true own

    old : until t s (time_of p.0) v ≡ until (alone t) lone (time_of p.0) v
    old = until-same t v (suc m) (time_of p.0) s lone f now

    same : (happens t s p).stations v ≡ (happens (alone t) lone both).stations v
    same = station-own t s p v here ∙ (ap (λ x. acted t x p.0) old ∙ sym (station-own (alone t) lone both v here))

    node : node_of p.0 ≡ v
    node = eqb-true (node_of p.0) v own

    old_at : until t s (time_of p.0) (node_of p.0) ≡ until (alone t) lone (time_of p.0) (node_of p.0)
    old_at = subst (λ n. until t s (time_of p.0) n ≡ until (alone t) lone (time_of p.0) n) (sym node) old

    new : caused (alone t) (until (alone t) lone (time_of p.0) (node_of p.0)) p.0 ≡ finishes_of (node_of p.0) (reaction t (until t s (time_of p.0) (node_of p.0)) p.0).services
    new =
        ap (λ l. l ++ finishes_of (node_of p.0) (reaction t (until (alone t) lone (time_of p.0) (node_of p.0)) p.0).services) (no_arrivals t (node_of p.0) (emissions_at t (until (alone t) lone (time_of p.0) (node_of p.0)) p.0))
        ∙ ap (λ x. finishes_of (node_of p.0) (reaction t x p.0).services) (sym old_at)

-- nothing pending: no step is left to follow
follows-none : {L : Type 0} (t : Table L) (v m : ℕ) (s lone : State L) → earliest t.rank s.pending ≡ None → Follows t v (suc m) s lone → Follows t v m s lone
follows-none t v m s lone q f =
    record {
      local = f.local;
      visits = f.visits;
      emitted = f.emitted;
      left = f.left ∙ ap (λ l. filter (is_arrival_at v) l ++ filter (is_finish_at v) s.pending) (handled-none (suc m) t s q ∙ sym (handled-none m t s q));
      clock = f.clock;
      current = f.current;
      area = f.area;
      busy = f.busy;
    }

-- a number of steps, and as many of the lone run as there are events of the node among them
follows-steps : {L : Type 0} (t : Table L) → IsPunctual t → IsFeedForward t → (v i j : ℕ) (s lone : State L) → Follows t v (i + j) s lone → Follows t v j (after i t s) (after (count_at v (handled i t s)) (alone t) lone)
follows-steps t on_time forward v zero j s lone f =
    rw (after-zero t s, handled-zero t s, after-zero (alone t) lone) (subst (λ m. Follows t v m s lone) (zero-add j) f)
follows-steps {L} t on_time forward v (suc i) j s lone f =
    go (earliest t.rank s.pending) refl (follows-steps t on_time forward v i j)
  where
    g : Follows t v (suc (i + j)) s lone
    g = let e : suc i + j ≡ suc (i + j) = omega arith in subst (λ m. Follows t v m s lone) e f

    go : (r : Option (Event × List Event)) → earliest t.rank s.pending ≡ r → ((s' lone' : State L) → Follows t v (i + j) s' lone' → Follows t v j (after i t s') (after (count_at v (handled i t s')) (alone t) lone')) → Follows t v j (after (suc i) t s) (after (count_at v (handled (suc i) t s)) (alone t) lone)
    go None q ih =
        let h = follows-none t v (i + j) s lone q g in
        let k = ih s lone h in
        rw (after-none (suc i) t s q, handled-none (suc i) t s q) (rw (after-none i t s q, handled-none i t s q) at k)
    go (Some p) q ih = rw (after-some i t s p q, handled-some i t s p q) (more (eqb (node_of p.0) v) refl)
      where
        more : (b : Bool) → eqb (node_of p.0) v ≡ b → Follows t v j (after i t (happens t s p)) (after (length (cond b (p.0 ∷ filter (λ e. eqb (node_of e) v) (handled i t (happens t s p))) (filter (λ e. eqb (node_of e) v) (handled i t (happens t s p))))) (alone t) lone)
        more true own = rw (after-suc (count_at v (handled i t (happens t s p))) (alone t) lone) (ih (happens t s p) (step (alone t) lone) (follows-own t on_time forward v (i + j) s lone p q own g))
        more false other = ih (happens t s p) lone (follows-other t on_time forward v (i + j) s lone p q other g)

only_arrivals : (v : ℕ) (es : List Event) → filter (is_finish_at v) (filter (is_arrival_at v) es) ≡ []
only_arrivals v es = filter-none (is_finish_at v) (filter (is_arrival_at v) es) (Each-filter_if (λ e. is_finish_at v e ≡ false) (is_arrival_at v) es (Each-any _ (λ e h. not_finish e h) es))
  where
    not_finish : (e : Event) → is_arrival_at v e ≡ true → is_finish_at v e ≡ false
    not_finish (Arrive t n q j) h = refl
    not_finish (Finish t n q j) h = absurd cc

-- at the start
follows-start : {L : Type 0} (t : Table L) (v m : ℕ) (starts : List Event) → Each (λ e. (n : ℕ) → is_finish_at n e ≡ false) starts → Follows t v m (opened t starts) (opened (alone t) (filter (is_arrival_at v) (handled m t (opened t starts))))
follows-start t v m starts arrive =
    record {
      local = refl;
      visits = refl;
      emitted = refl;
      left = sym (ap (λ l. filter (is_arrival_at v) (handled m t (opened t starts)) ++ l) (filter-none (is_finish_at v) starts (Each-weaker _ _ (λ e h. h v) starts arrive)) ∙ append-nil _);
      clock = omega arith;
      current = Each-any _ (λ e. omega arith) starts;
      area = no_time 0 _ 0;
      busy = no_time 0 _ 0;
    }

-- the node does in the network what it does alone
pub same-alone : {L : Type 0} (t : Table L) → IsPunctual t → IsFeedForward t → (v : ℕ) (starts : List Event) → Each (λ e. (n : ℕ) → is_finish_at n e ≡ false) starts → (i j : ℕ) → IsSameAt t v (after i t (opened t starts)) (lone_after t starts (i + j) v i)
same-alone t on_time forward v starts arrive i j =
    let f = follows-steps t on_time forward v i j (opened t starts) _ (follows-start t v (i + j) starts arrive) in
    record {
      local = f.local;
      visits = f.visits;
      emitted = f.emitted;
      finishes = sym (ap (filter (is_finish_at v)) f.left ∙ (filter-append (is_finish_at v) (filter (is_arrival_at v) (handled j t (after i t (opened t starts)))) (filter (is_finish_at v) (after i t (opened t starts)).pending) ∙ (ap (λ l. l ++ filter (is_finish_at v) (filter (is_finish_at v) (after i t (opened t starts)).pending)) (only_arrivals v (handled j t (after i t (opened t starts)))) ∙ filter-all (is_finish_at v) _ (Each-filter_if (λ e. is_finish_at v e ≡ true) (is_finish_at v) (after i t (opened t starts)).pending (Each-any _ (λ e h. h) _)))));
      clock = f.clock;
      area = f.area;
      busy = f.busy;
    }

-- at the end of the network's run the lone run is at its end too
pub alone-done : {L : Type 0} (t : Table L) → IsPunctual t → IsFeedForward t → (v : ℕ) (starts : List Event) → Each (λ e. (n : ℕ) → is_finish_at n e ≡ false) starts → (count : ℕ) → (after count t (opened t starts)).pending ≡ [] → (lone_after t starts count v count).pending ≡ []
alone-done t on_time forward v starts arrive count done =
    let start = subst (λ m. Follows t v m (opened t starts) (opened (alone t) (filter (is_arrival_at v) (handled count t (opened t starts))))) (sym (add-zero count)) (follows-start t v count starts arrive) in
    let f = follows-steps t on_time forward v count 0 (opened t starts) _ start in
    f.left ∙ (ap (λ l. filter (is_arrival_at v) l ++ filter (is_finish_at v) (after count t (opened t starts)).pending) (handled-zero t (after count t (opened t starts))) ∙ ap (filter (is_finish_at v)) done)
