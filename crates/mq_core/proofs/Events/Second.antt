-- That the arrivals at a node are handled in the order that they have alone.
use Rattle.std.proofs.Common.{◌≡◌, ℕ, zero, suc, ◌+◌, ◌<◌, ◌≤◌, Bool, true, false, eqb, List, [], ◌∷◌, ◌++◌, Option, Some, None, sym, refl, ap, ◌∙◌, subst, arith, eq-eqb, eqb-true, ne_eqb}
use Rattle.std.proofs.lemmas.Bool.Decides.{nat_tests}
use Rattle.std.proofs.lemmas.List.Elements.{filter-append}
use Rattle.std.proofs.lemmas.List.{append-nil}
use Rattle.std.specs.Prelude.{filter, ◌&&◌, slice_get, IfSome}
use Rattle.std.specs.List.{AllByRecursion as Each}
use Rattle.mq_base.proofs.lemmas.Each.{Each-append, Each-front, Each-back, Each-weaker, Each-map, Each-any, Each-filter, Each-filter_if, Each-both, filter-none, filter-all, filter-yes, filter-no, filter-and, filter-swap}
use Rattle.mq_core.specs.Event.{Event, time_of, node_of, is_sooner, order_key, earliest}
use Rattle.mq_core.specs.Event.Event.{Arrive, Finish}
use Rattle.mq_core.specs.Machine.{Emission, Table, State, Station, after, handled, happens, caused, arrivals_of, emissions_at, finishes_of, reaction, until, opened}
use Rattle.mq_core.specs.Laws.{alone, NotBefore, IsNoEarlier, Rises, port_of, is_arrival_at, by_time, stream_of, brought, read_by}
use Rattle.mq_core.proofs.Events.Tables.{IsPunctual, IsFeedForward, IsWired}
use Rattle.mq_core.proofs.Lists.Order.{below-irrefl, not_below-cons}
use Rattle.mq_core.proofs.Events.Pending.{earliest-splits, Splits-least}
use Rattle.mq_core.proofs.Events.Steps.{handled-zero, handled-some, handled-none}
use Rattle.mq_core.proofs.Events.Forward.{no_earlier_trans, Each-arrivals, Each-finishes, pending-no_earlier}
use Rattle.mq_core.proofs.lemmas.Rising.{same_by_key, filter-in_order_of, Rises-in_order_of, Rises-append, Rises-filter, Rises-weaker}
use Rattle.mq_core.proofs.Events.Arrivals.{added, handled-in_order, is_at_port, stream-added, none-added}

-- the arrivals at a node: what starts there and what its ports read, by time, then port, then index
abbrev pub arrivals_in : {L : Type 0} → (ℕ → List (ℕ × ℕ)) → List Event → State L → ℕ → List Event
arrivals_in inputs starts s v = by_time (filter (is_arrival_at v) starts ++ read_by s v 0 (inputs v))

-- what isn't sooner than an arrival, at the same node
not_sooner : (rank : ℕ → ℕ) (v : ℕ) (e f : Event) → is_arrival_at v e ≡ true → is_arrival_at v f ≡ true → is_sooner rank f e ≡ false → NotBefore e f
unfolding order_key
not_sooner rank v (Finish t n q j) f a b h = absurd cc
not_sooner rank v (Arrive t n q j) (Finish t' n' q' j') a b h = absurd cc
not_sooner rank v (Arrive t n q j) (Arrive t' n' q' j') a b h =
    let one = not_below-cons t' t _ _ h in (
      one.0,
      λ e.
          let two = not_below-cons (rank n') (rank n) _ _ (one.1 (sym e)) in
          let three = not_below-cons 1 1 _ _ (two.1 (ap rank (eqb-true n' v b ∙ sym (eqb-true n v a)))) in
          (not_below-cons q' q _ _ (three.1 refl)).0,
    )

-- an arrival at v that a later event causes comes strictly later than an arrival at v
caused-later : {L : Type 0} (t : Table L) → IsPunctual t → IsFeedForward t → (v : ℕ) (e g : Event) → is_arrival_at v e ≡ true → IsNoEarlier t.rank e g → (s : Station L) → Each (λ f. is_arrival_at v f ≡ true → NotBefore e f) (caused t s g)
caused-later t on_time forward v e g a h s =
    Each-append _ (arrivals_of t (node_of g) (emissions_at t s g)) (finishes_of (node_of g) (reaction t s g).services)
    (Each-arrivals t s g (λ f. is_arrival_at v f ≡ true → NotBefore e f) (λ out port node job r b.
    let up : t.rank (node_of g) < t.rank node = subst (λ o. IfSome o (λ to. t.rank (node_of g) < t.rank to.0)) r (forward (node_of g) out) in
    let here : node ≡ v = eqb-true node v b in
    let there : node_of e ≡ v = arrival_node v e a in
    let same : t.rank node ≡ t.rank (node_of e) = ap t.rank (here ∙ sym there) in
    (h.0, λ q. absurd (let k = h.1 q in omega arith))))
    (Each-finishes t s g (λ f. is_arrival_at v f ≡ true → NotBefore e f) on_time (λ time server position q b. absurd cc))
  where
    arrival_node : (v : ℕ) (e : Event) → is_arrival_at v e ≡ true → node_of e ≡ v
    arrival_node v (Arrive t n q j) k = eqb-true n v k
    arrival_node v (Finish t n q j) k = absurd cc

-- a bound from below on the pending arrivals at a node is one on those that will be handled
pub arrivals-later : {L : Type 0} (t : Table L) → IsPunctual t → IsFeedForward t → (v : ℕ) (e : Event) → is_arrival_at v e ≡ true → (n : ℕ) (s : State L) → Each (IsNoEarlier t.rank e) s.pending → Each (λ f. is_arrival_at v f ≡ true → NotBefore e f) s.pending → Each (λ f. is_arrival_at v f ≡ true → NotBefore e f) (handled n t s)
arrivals-later t on_time forward v e a zero s h k = rw (handled-zero t s) tt
arrivals-later {L} t on_time forward v e a (suc n) s h k = go (earliest t.rank s.pending) refl (arrivals-later t on_time forward v e a n)
  where
    go : (r : Option (Event × List Event)) → earliest t.rank s.pending ≡ r → ((s' : State L) → Each (IsNoEarlier t.rank e) s'.pending → Each (λ f. is_arrival_at v f ≡ true → NotBefore e f) s'.pending → Each (λ f. is_arrival_at v f ≡ true → NotBefore e f) (handled n t s')) → Each (λ f. is_arrival_at v f ≡ true → NotBefore e f) (handled (suc n) t s)
    go None q ih = rw (handled-none (suc n) t s q) tt
    go (Some p) q ih =
        let parts = earliest-splits t.rank s.pending p q in
        let early : Each (IsNoEarlier t.rank e) (parts.front ++ p.0 ∷ parts.back) = subst (Each (IsNoEarlier t.rank e)) parts.whole h in
        let here : IsNoEarlier t.rank e p.0 = (Each-back (IsNoEarlier t.rank e) parts.front (p.0 ∷ parts.back) early).0 in
        let all : Each (λ f. is_arrival_at v f ≡ true → NotBefore e f) (parts.front ++ p.0 ∷ parts.back) = subst (Each (λ f. is_arrival_at v f ≡ true → NotBefore e f)) parts.whole k in
        let back = Each-back (λ f. is_arrival_at v f ≡ true → NotBefore e f) parts.front (p.0 ∷ parts.back) all in
        let left : Each (λ f. is_arrival_at v f ≡ true → NotBefore e f) p.1 =
        subst (Each (λ f. is_arrival_at v f ≡ true → NotBefore e f)) (sym parts.left) (Each-append (λ f. is_arrival_at v f ≡ true → NotBefore e f) parts.front parts.back (Each-front (λ f. is_arrival_at v f ≡ true → NotBefore e f) parts.front (p.0 ∷ parts.back) all) back.1) in
        rw (handled-some n t s p q) (
          back.0,
          ih (happens t s p)
              (Each-weaker _ _ (λ f m. no_earlier_trans t.rank e p.0 f here m) (happens t s p).pending (pending-no_earlier t on_time forward s p q))
              (Each-append (λ f. is_arrival_at v f ≡ true → NotBefore e f) p.1 _ left (caused-later t on_time forward v e p.0 a here (until t s (time_of p.0) (node_of p.0)))),
        )

-- the events that are pending after an arrival at v, and arrive there, aren't before it
pub pending-not_before : {L : Type 0} (t : Table L) → IsPunctual t → IsFeedForward t → (v : ℕ) (s : State L) (p : Event × List Event) → earliest t.rank s.pending ≡ Some p → is_arrival_at v p.0 ≡ true → Each (λ f. is_arrival_at v f ≡ true → NotBefore p.0 f) (happens t s p).pending
pending-not_before t on_time forward v s p q a =
    let parts = earliest-splits t.rank s.pending p q in
    let least = subst (Each (λ f. is_sooner t.rank f p.0 ≡ false)) parts.whole (Splits-least t.rank s.pending p parts) in
    let left : Each (λ f. is_sooner t.rank f p.0 ≡ false) p.1 =
    subst (Each (λ f. is_sooner t.rank f p.0 ≡ false)) (sym parts.left) (Each-append _ parts.front parts.back (Each-front _ parts.front (p.0 ∷ parts.back) least) (Each-back _ parts.front (p.0 ∷ parts.back) least).1) in
    Each-append (λ f. is_arrival_at v f ≡ true → NotBefore p.0 f) p.1 _
    (Each-weaker _ _ (λ f k b. not_sooner t.rank v p.0 f a b k) p.1 left)
    (caused-later t on_time forward v p.0 p.0 a (omega arith, λ _. omega arith) (until t s (time_of p.0) (node_of p.0)))

-- the arrivals at a node are handled by time, and at one time by port
pub arrivals-rise : {L : Type 0} (t : Table L) → IsPunctual t → IsFeedForward t → (v n : ℕ) (s : State L) → Rises NotBefore (filter (is_arrival_at v) (handled n t s))
arrivals-rise t on_time forward v zero s = rw (handled-zero t s) tt
arrivals-rise {L} t on_time forward v (suc n) s = go (earliest t.rank s.pending) refl (arrivals-rise t on_time forward v n)
  where
    go : (r : Option (Event × List Event)) → earliest t.rank s.pending ≡ r → ((s' : State L) → Rises NotBefore (filter (is_arrival_at v) (handled n t s'))) → Rises NotBefore (filter (is_arrival_at v) (handled (suc n) t s))
    go None q ih = rw (handled-none (suc n) t s q) tt
    go (Some p) q ih = rw (handled-some n t s p q) (more (is_arrival_at v p.0) refl)
      where
        more : (b : Bool) → is_arrival_at v p.0 ≡ b → Rises NotBefore (filter (is_arrival_at v) (p.0 ∷ handled n t (happens t s p)))
        more false a = rw (filter-no (is_arrival_at v) p.0 (handled n t (happens t s p)) a) (ih (happens t s p))
        more true a =
            rw (filter-yes (is_arrival_at v) p.0 (handled n t (happens t s p)) a) (
              Each-filter_if (NotBefore p.0) (is_arrival_at v) (handled n t (happens t s p))
                  (arrivals-later t on_time forward v p.0 a n (happens t s p) (pending-no_earlier t on_time forward s p q) (pending-not_before t on_time forward v s p q a)),
              ih (happens t s p),
            )

-- what is brought to a port is at that port, and at no other
brought-at : (v q : ℕ) (stream : List Emission) → filter (is_at_port v q) (brought v q stream) ≡ brought v q stream
brought-at v q stream = filter-all (is_at_port v q) (brought v q stream) (Each-map (λ _. Unit {0}) (λ f. is_at_port v q f ≡ true) (λ m. Arrive m.time v q m.job) (λ m _. rw (eq-eqb v v refl, eq-eqb q q refl) refl) stream (Each-any _ (λ _. tt) stream))

brought-other : (v q r : ℕ) (stream : List Emission) → (r ≡ q → ⊥) → filter (is_at_port v q) (brought v r stream) ≡ []
brought-other v q r stream h = filter-none (is_at_port v q) (brought v r stream) (Each-map (λ _. Unit {0}) (λ f. is_at_port v q f ≡ false) (λ m. Arrive m.time v r m.job) (λ m _. rw (eq-eqb v v refl, ne_eqb r q h) refl) stream (Each-any _ (λ _. tt) stream))

-- what an input reads, if there is one
abbrev from_input : {L : Type 0} → State L → ℕ → ℕ → Option (ℕ × ℕ) → List Event
from_input s v q None = []
from_input s v q (Some i) = brought v q (stream_of i.1 (s.stations i.0).emitted)

-- the ports from r on have nothing at a lower port
read_by-below : {L : Type 0} (s : State L) (v q r : ℕ) (is : List (ℕ × ℕ)) → q < r → filter (is_at_port v q) (read_by s v r is) ≡ []
read_by-below s v q r [] h = refl
read_by-below s v q r (i ∷ is) h =
    filter-append (is_at_port v q) (brought v r (stream_of i.1 (s.stations i.0).emitted)) (read_by s v (suc r) is)
    ∙ (ap (λ l. l ++ filter (is_at_port v q) (read_by s v (suc r) is)) (brought-other v q r (stream_of i.1 (s.stations i.0).emitted) (λ e. omega arith))
    ∙ read_by-below s v q (suc r) is (omega arith))

read_by-port : {L : Type 0} (s : State L) (v q r : ℕ) (is : List (ℕ × ℕ)) (k : ℕ) → q ≡ r + k → filter (is_at_port v q) (read_by s v r is) ≡ from_input s v q (slice_get is k)
read_by-port s v q r [] k h = refl
read_by-port s v q r (i ∷ is) zero h =
    let same : r ≡ q = omega arith in
    subst (λ x. filter (is_at_port v q) (brought v x (stream_of i.1 (s.stations i.0).emitted) ++ read_by s v (suc x) is) ≡ brought v q (stream_of i.1 (s.stations i.0).emitted)) (sym same)
    (filter-append (is_at_port v q) (brought v q (stream_of i.1 (s.stations i.0).emitted)) (read_by s v (suc q) is)
    ∙ (ap (λ l. l ++ filter (is_at_port v q) (read_by s v (suc q) is)) (brought-at v q (stream_of i.1 (s.stations i.0).emitted))
    ∙ (ap (λ l. brought v q (stream_of i.1 (s.stations i.0).emitted) ++ l) (read_by-below s v q (suc q) is (omega arith)) ∙ append-nil _)))
read_by-port s v q r (i ∷ is) (suc k) h =
    filter-append (is_at_port v q) (brought v r (stream_of i.1 (s.stations i.0).emitted)) (read_by s v (suc r) is)
    ∙ (ap (λ l. l ++ filter (is_at_port v q) (read_by s v (suc r) is)) (brought-other v q r (stream_of i.1 (s.stations i.0).emitted) (λ e. omega arith))
    ∙ read_by-port s v q (suc r) is k (omega arith))

-- the ports in order
brought-port : (v q : ℕ) (stream : List Emission) → Each (λ f. port_of f ≡ q) (brought v q stream)
brought-port v q stream = Each-map (λ _. Unit {0}) (λ f. port_of f ≡ q) (λ m. Arrive m.time v q m.job) (λ m _. refl) stream (Each-any _ (λ _. tt) stream)

read_by-above : {L : Type 0} (s : State L) (v r : ℕ) (is : List (ℕ × ℕ)) → Each (λ f. r ≤ port_of f) (read_by s v r is)
read_by-above s v r [] = tt
read_by-above s v r (i ∷ is) =
    Each-append _ (brought v r (stream_of i.1 (s.stations i.0).emitted)) (read_by s v (suc r) is)
    (Each-weaker _ _ (λ f e. omega arith) (brought v r (stream_of i.1 (s.stations i.0).emitted)) (brought-port v r (stream_of i.1 (s.stations i.0).emitted)))
    (Each-weaker _ _ (λ f e. omega arith) (read_by s v (suc r) is) (read_by-above s v (suc r) is))

one_port-rises : (q : ℕ) (fs : List Event) → Each (λ f. port_of f ≡ q) fs → Rises (λ a b. port_of a ≤ port_of b) fs
one_port-rises q [] h = tt
one_port-rises q (f ∷ fs) h = (Each-weaker _ _ (λ g e. let a = h.0 in omega arith) fs h.1, one_port-rises q fs h.1)

one_port-append : (q : ℕ) (xs ys : List Event) → Each (λ f. port_of f ≡ q) xs → Each (λ f. q ≤ port_of f) ys → Rises (λ a b. port_of a ≤ port_of b) ys → Rises (λ a b. port_of a ≤ port_of b) (xs ++ ys)
one_port-append q xs ys h k r =
    Rises-append (λ a b. port_of a ≤ port_of b) xs ys (one_port-rises q xs h) r
    (Each-weaker _ _ (λ x e. Each-weaker _ _ (λ y m. omega arith) ys k) xs h)

read_by-rises : {L : Type 0} (s : State L) (v r : ℕ) (is : List (ℕ × ℕ)) → Rises (λ a b. port_of a ≤ port_of b) (read_by s v r is)
read_by-rises s v r [] = tt
read_by-rises s v r (i ∷ is) =
    one_port-append r (brought v r (stream_of i.1 (s.stations i.0).emitted)) (read_by s v (suc r) is) (brought-port v r (stream_of i.1 (s.stations i.0).emitted))
    (Each-weaker _ _ (λ f e. omega arith) (read_by s v (suc r) is) (read_by-above s v (suc r) is))
    (read_by-rises s v (suc r) is)

-- what the ports read arrives at the node
read_by-at : {L : Type 0} (s : State L) (v r : ℕ) (is : List (ℕ × ℕ)) → Each (λ f. is_arrival_at v f ≡ true) (read_by s v r is)
read_by-at s v r [] = tt
read_by-at s v r (i ∷ is) =
    Each-append _ (brought v r (stream_of i.1 (s.stations i.0).emitted)) (read_by s v (suc r) is)
    (Each-map (λ _. Unit {0}) (λ f. is_arrival_at v f ≡ true) (λ m. Arrive m.time v r m.job) (λ m _. eq-eqb v v refl) (stream_of i.1 (s.stations i.0).emitted) (Each-any _ (λ _. tt) (stream_of i.1 (s.stations i.0).emitted)))
    (read_by-at s v (suc r) is)

-- events of one node, port and time are alike
alike_class : (rank : ℕ → ℕ) (v q k : ℕ) (e f : Event) → (is_at_port v q e && eqb (time_of e) k) ≡ true → (is_at_port v q f && eqb (time_of f) k) ≡ true → is_sooner rank e f ≡ false
unfolding order_key
alike_class rank v q k (Finish t n p j) f a b = absurd cc
alike_class rank v q k (Arrive t n p j) (Finish t' n' p' j') a b = absurd cc
alike_class rank v q k (Arrive t n p j) (Arrive t' n' p' j') a b =
    let times : t ≡ t' = grind (arith, nat_tests) in
    let nodes : n ≡ n' = grind (arith, nat_tests) in
    let ports : p ≡ p' = grind (arith, nat_tests) in
    rw (times, nodes, ports) (below-irrefl (t' ∷ rank n' ∷ 1 ∷ p' ∷ []))

-- the parts of one port and one time
by_port : (v q k : ℕ) (es : List Event) → filter (λ e. eqb (port_of e) q) (filter (λ e. eqb (time_of e) k) (filter (is_arrival_at v) es)) ≡ filter (λ e. eqb (time_of e) k) (filter (is_at_port v q) es)
by_port v q k es =
    filter-swap (λ e. eqb (port_of e) q) (λ e. eqb (time_of e) k) (filter (is_arrival_at v) es)
    ∙ ap (filter (λ e. eqb (time_of e) k)) (sym (filter-and (is_arrival_at v) (λ e. eqb (port_of e) q) es))

-- at one time they are in order of their ports
rise-ports : (k : ℕ) (es : List Event) → Rises NotBefore es → Each (λ e. time_of e ≡ k) es → Rises (λ a b. port_of a ≤ port_of b) es
rise-ports k [] r h = tt
rise-ports k (e ∷ es) r h = (Each-both _ _ _ (λ f m same. m.1 (h.0 ∙ sym same)) es r.0 h.1, rise-ports k es r.1 h.1)

filter-twice : {X : Type 0} (test : X → Bool) (xs : List X) → filter test (filter test xs) ≡ filter test xs
filter-twice test xs = filter-all test (filter test xs) (Each-filter_if (λ x. test x ≡ true) test xs (Each-any _ (λ x h. h) xs))

filter_k-time : (k : ℕ) (es : List Event) → Each (λ e. time_of e ≡ k) (filter (λ e. eqb (time_of e) k) es)
filter_k-time k es = Each-filter_if (λ e. time_of e ≡ k) (λ e. eqb (time_of e) k) es (Each-any _ (λ e h. eqb-true (time_of e) k h) es)

module _ {L : Type 0} (t : Table L) (on_time : IsPunctual t) (forward : IsFeedForward t) (inputs : ℕ → List (ℕ × ℕ)) (wired : IsWired t inputs) (starts : List Event) (n : ℕ) (done : (after n t (opened t starts)).pending ≡ []) (v : ℕ) (ports : (k : ℕ) → Rises (λ a b. port_of a ≤ port_of b) (filter (λ e. eqb (time_of e) k) (filter (is_arrival_at v) starts ++ read_by (after n t (opened t starts)) v 0 (inputs v)))) where
  abbrev end : State L
  end = after n t (opened t starts)

  abbrev came : List Event
  came = handled n t (opened t starts)

  abbrev sent : List Event
  sent = filter (is_arrival_at v) starts ++ read_by end v 0 (inputs v)

  sent-at : filter (is_arrival_at v) sent ≡ sent
  sent-at = filter-all (is_arrival_at v) sent (Each-append _ (filter (is_arrival_at v) starts) (read_by end v 0 (inputs v)) (Each-filter_if (λ x. is_arrival_at v x ≡ true) (is_arrival_at v) starts (Each-any _ (λ x h. h) starts)) (read_by-at end v 0 (inputs v)))

  input-added : (q : ℕ) (i : Option (ℕ × ℕ)) → slice_get (inputs v) q ≡ i → from_input end v q i ≡ filter (is_at_port v q) (added n t (opened t starts))
  input-added q None h = sym (none-added t v q (λ u out r. let a = wired.reads u out v q r in absurd cc) n (opened t starts))
  input-added q (Some i) h = stream-added t inputs wired i.0 i.1 v q (wired.read i.0 i.1 v q h) n (opened t starts)

  sent-port : (q : ℕ) → filter (is_at_port v q) sent ≡ filter (is_at_port v q) starts ++ filter (is_at_port v q) (added n t (opened t starts))
  sent-port q =
      let own : filter (is_at_port v q) (filter (is_arrival_at v) starts) ≡ filter (is_at_port v q) starts =
      filter-and (is_arrival_at v) (λ e. eqb (port_of e) q) (filter (is_arrival_at v) starts)
      ∙ (ap (filter (λ e. eqb (port_of e) q)) (filter-twice (is_arrival_at v) starts)
      ∙ sym (filter-and (is_arrival_at v) (λ e. eqb (port_of e) q) starts)) in
      filter-append (is_at_port v q) (filter (is_arrival_at v) starts) (read_by end v 0 (inputs v))
      ∙ (ap (λ l. l ++ filter (is_at_port v q) (read_by end v 0 (inputs v))) own
      ∙ ap (λ l. filter (is_at_port v q) starts ++ l) (read_by-port end v q 0 (inputs v) q (omega arith) ∙ input-added q (slice_get (inputs v) q) refl))

  came-class : (q k : ℕ) → filter (λ e. eqb (time_of e) k) (filter (is_at_port v q) came) ≡ filter (λ e. eqb (time_of e) k) (filter (is_at_port v q) sent)
  came-class q k =
      let test : Event → Bool = λ e. is_at_port v q e && eqb (time_of e) k in
      let order : filter test came ++ filter test end.pending ≡ filter test starts ++ filter test (added n t (opened t starts)) =
      handled-in_order t test (λ e f a b. alike_class t.rank v q k e f a b) n (opened t starts) in
      let none : filter test came ++ filter test end.pending ≡ filter test came = ap (λ l. filter test came ++ filter test l) done ∙ append-nil (filter test came) in
      sym (filter-and (is_at_port v q) (λ e. eqb (time_of e) k) came)
      ∙ (sym none
      ∙ (order
      ∙ (sym (filter-append test starts (added n t (opened t starts)))
      ∙ (filter-and (is_at_port v q) (λ e. eqb (time_of e) k) (starts ++ added n t (opened t starts))
      ∙ ap (filter (λ e. eqb (time_of e) k)) (filter-append (is_at_port v q) starts (added n t (opened t starts)) ∙ sym (sent-port q))))))

  came-time : (k : ℕ) → filter (λ e. eqb (time_of e) k) (filter (is_arrival_at v) came) ≡ filter (λ e. eqb (time_of e) k) sent
  came-time k =
      same_by_key port_of (filter (λ e. eqb (time_of e) k) (filter (is_arrival_at v) came)) (filter (λ e. eqb (time_of e) k) sent)
      (rise-ports k _ (Rises-filter NotBefore (λ e. eqb (time_of e) k) (filter (is_arrival_at v) came) (arrivals-rise t on_time forward v n (opened t starts))) (filter_k-time k (filter (is_arrival_at v) came)))
      (ports k)
      (λ q. by_port v q k came ∙ (came-class q k ∙ (sym (by_port v q k sent) ∙ ap (λ l. filter (λ e. eqb (port_of e) q) (filter (λ e. eqb (time_of e) k) l)) sent-at)))

  -- the arrivals at a node, in the order in which they were handled
  pub handled-arrivals : filter (is_arrival_at v) (handled n t (opened t starts)) ≡ arrivals_in inputs starts (after n t (opened t starts)) v
  handled-arrivals =
      same_by_key time_of (filter (is_arrival_at v) came) (by_time sent)
      (Rises-weaker NotBefore (λ a b. time_of a ≤ time_of b) (λ a b h. h.0) (filter (is_arrival_at v) came) (arrivals-rise t on_time forward v n (opened t starts)))
      (Rises-in_order_of time_of sent)
      (λ k. came-time k ∙ sym (filter-in_order_of time_of k sent))

-- starts at port 0 keep the ports in order
pub ports-from_zero : {L : Type 0} (s : State L) (starts : List Event) (v : ℕ) (is : List (ℕ × ℕ)) → Each (λ f. port_of f ≡ 0) starts → (k : ℕ) → Rises (λ a b. port_of a ≤ port_of b) (filter (λ e. eqb (time_of e) k) (filter (is_arrival_at v) starts ++ read_by s v 0 is))
ports-from_zero s starts v is at_zero k =
    Rises-filter (λ a b. port_of a ≤ port_of b) (λ e. eqb (time_of e) k) (filter (is_arrival_at v) starts ++ read_by s v 0 is)
    (one_port-append 0 (filter (is_arrival_at v) starts) (read_by s v 0 is) (Each-filter _ (is_arrival_at v) starts at_zero) (read_by-above s v 0 is) (read_by-rises s v 0 is))

-- alone, arrivals that are in order are handled in their order
pub alone-arrivals : {L : Type 0} (t : Table L) → IsPunctual t → (v : ℕ) (arrivals : List Event) → Each (λ e. is_arrival_at v e ≡ true) arrivals → Rises NotBefore arrivals → (n : ℕ) → (after n (alone t) (opened (alone t) arrivals)).pending ≡ [] → filter (is_arrival_at v) (handled n (alone t) (opened (alone t) arrivals)) ≡ arrivals
alone-arrivals {L} t on_time v arrivals at rises n done =
    handled-arrivals (alone t) on_time (λ _ _. tt) (λ _. []) (record { reads = λ m out u q h. absurd cc; read = λ m out u q h. absurd cc }) arrivals n done v
    (λ k. subst (λ l. Rises (λ a b. port_of a ≤ port_of b) (filter (λ e. eqb (time_of e) k) l)) (sym whole) (rise-ports k (filter (λ e. eqb (time_of e) k) arrivals) (Rises-filter NotBefore (λ e. eqb (time_of e) k) arrivals rises) (filter_k-time k arrivals)))
    ∙ (ap by_time whole
    ∙ same_by_key time_of (by_time arrivals) arrivals (Rises-in_order_of time_of arrivals) (Rises-weaker NotBefore (λ a b. time_of a ≤ time_of b) (λ a b h. h.0) arrivals rises) (λ k. filter-in_order_of time_of k arrivals))
  where
    whole : filter (is_arrival_at v) arrivals ++ [] ≡ arrivals
    whole = append-nil (filter (is_arrival_at v) arrivals) ∙ filter-all (is_arrival_at v) arrivals at
