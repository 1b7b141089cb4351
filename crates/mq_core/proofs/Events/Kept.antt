-- That what each event keeps of a node holds after any number of steps.
use Rattle.std.proofs.Common.{Bool, IfSome, List, None, Option, Some, [], ap, arith, eq-eqb, eqb, eqb-true, false, max, refl, subst, suc, sym, true, zero, ℕ, ◌++◌, ◌-◌, ◌<◌, ◌∙◌, ◌∷◌, ◌≡◌, ◌≤◌}
use Rattle.std.proofs.lemmas.List.{append-nil}
use Rattle.std.specs.Prelude.{filter}
use Rattle.std.specs.List.{AllByRecursion as Each}
use Rattle.mq_base.proofs.lemmas.Each.{Each-any, Each-append, Each-back, Each-filter, Each-filter_if, Each-front, Each-weaker, filter-none}
use Rattle.mq_core.specs.Event.{Event, time_of, node_of, is_sooner, order_key, earliest}
use Rattle.mq_core.specs.Event.Event.{Arrive, Finish}
use Rattle.mq_core.specs.Machine.{State, Station, Table, acted, after, aged, arrivals_of, caused, emissions_at, finishes_of, happens, opened, reaction, until}
use Rattle.mq_core.proofs.Events.Tables.{IsPunctual, IsFeedForward}
use Rattle.mq_core.specs.Laws.{is_finish_at}
use Rattle.mq_core.proofs.Lists.Order.{not_below-cons}
use Rattle.mq_core.proofs.Events.Pending.{Splits, Splits-least, earliest-filter, earliest-splits, filter-earliest_other}
use Rattle.mq_core.proofs.Events.Steps.{after-some, after-none, after-zero, station-other, station-own}
use Rattle.mq_core.proofs.Events.Forward.{Each-arrivals, Each-finishes, no_earlier, pending-no_earlier}
use Rattle.mq_core.proofs.Events.Third.{now-current, eqb-swap, elsewhere, finishes-caused, no_finishes-caused, finishes-pending}

-- what is said of a node, of its pending finishes and of the clock
abbrev pub Fact : Type 0 → Type 1
Fact L = ℕ → Station L → List Event → ℕ → Type 0

-- a port that a node has; one that has none takes its arrivals as by the first
abbrev pub Fits : {L : Type 0} → Table L → ℕ → ℕ → Type 0
Fits t v port = port < max 1 (t.ports v)

-- an arrival comes by a port that its node has
abbrev pub FitsIn : {L : Type 0} → Table L → Event → Type 0
FitsIn t (Arrive time node port job) = Fits t node port
FitsIn t (Finish time node server position) = Unit {0}

-- an arrival, by a port that its node has
abbrev pub Begins : {L : Type 0} → Table L → Event → Type 0
Begins t e = ((n : ℕ) → is_finish_at n e ≡ false) × FitsIn t e

-- a fact of each node that holds at the start and that time and the node's own events keep
pub record Keeps {L : Type 0} (t : Table L) (P : Fact L) : Type 0 where
  pub opens : (v : ℕ) → P v (record { local = t.opening v; visits = []; emitted = []; area = 0; busy = 0 }) [] 0
  pub waits : (v : ℕ) (s : Station L) (fs : List Event) (now later : ℕ) → P v s fs now → now ≤ later → Each (λ f. later ≤ time_of f) fs → P v (aged t (later - now) v s) fs later
  pub arrives : (v port job : ℕ) (s : Station L) (fs : List Event) (now : ℕ) → P v s fs now → Each (λ f. now < time_of f) fs → Fits t v port → P v (acted t s (Arrive now v port job)) (fs ++ finishes_of v (reaction t s (Arrive now v port job)).services) now
  pub fits : (n out : ℕ) → IfSome (t.reader n out) (λ to. Fits t to.0 to.1)
  pub ends : (v server position : ℕ) (s : Station L) (fs rest : List Event) (now : ℕ) → P v s fs now → earliest t.rank fs ≡ Some (Finish now v server position, rest) → P v (acted t s (Finish now v server position)) (rest ++ finishes_of v (reaction t s (Finish now v server position)).services) now

strict : (a b : ℕ) → a ≤ b → (a ≡ b → 1 ≤ 0) → a < b
strict a b l k = grind arith

-- a finish at the node of an arrival that isn't sooner is strictly later
finish-later : (rank : ℕ → ℕ) (v : ℕ) (e f : Event) → is_finish_at v f ≡ true → node_of e ≡ v → ((n : ℕ) → is_finish_at n e ≡ false) → is_sooner rank f e ≡ false → time_of e < time_of f
unfolding order_key
finish-later rank v (Finish t n q j) f a b c h = absurd (let d = c n in let e = eq-eqb n n refl in cc)
finish-later rank v (Arrive t n q j) (Arrive t' n' q' j') a b c h = absurd cc
finish-later rank v (Arrive t n q j) (Finish t' n' q' j') a b c h =
    let one = not_below-cons t' t _ _ h in
    go (one.0) (λ e.
    let two = not_below-cons (rank n') (rank n) _ _ (one.1 (sym e)) in
    let three = not_below-cons 0 1 _ _ (two.1 (ap rank (eqb-true n' v a ∙ sym b))) in
    three.0)
  where
    go : t ≤ t' → (t ≡ t' → 1 ≤ 0) → t < t'
    go l k = strict t t' l k

-- the state of every node
pub record Holds {L : Type 0} (t : Table L) (P : Fact L) (s : State L) : Type 0 where
  pub each : (v : ℕ) → P v (s.stations v) (filter (is_finish_at v) s.pending) s.clock
  pub current : Each (λ f. s.clock ≤ time_of f) s.pending
  pub fitting : Each (FitsIn t) s.pending

-- each node just before an event
pub holds-until : {L : Type 0} (t : Table L) (P : Fact L) → Keeps t P → (s : State L) (p : Event × List Event) → earliest t.rank s.pending ≡ Some p → Holds t P s → (v : ℕ) → P v (until t s (time_of p.0) v) (filter (is_finish_at v) s.pending) (time_of p.0)
holds-until t P keeps s p q h v =
    keeps.waits v (s.stations v) (filter (is_finish_at v) s.pending) s.clock (time_of p.0) (h.each v) (now-current t s p q h.current)
    (Each-filter _ (is_finish_at v) s.pending (Each-weaker _ _ (λ f b. (no_earlier t.rank p.0 f b).0) s.pending (Splits-least t.rank s.pending p (earliest-splits t.rank s.pending p q))))

pub holds-happens : {L : Type 0} (t : Table L) (P : Fact L) → Keeps t P → IsPunctual t → IsFeedForward t → (s : State L) (p : Event × List Event) → earliest t.rank s.pending ≡ Some p → Holds t P s → Holds t P (happens t s p)
holds-happens {L} t P keeps on_time forward s p q h =
    record {
      each = λ v. go v (eqb (node_of p.0) v) refl;
      current = Each-weaker _ _ (λ g k. k.0) (happens t s p).pending (pending-no_earlier t on_time forward s p q);
      fitting = Each-append _ p.1 _ (subst (Each (FitsIn t)) (sym splits.left) (Each-append _ splits.front splits.back (Each-front _ splits.front (p.0 ∷ splits.back) whole) own-fits.1)) (caused-fits (until t s (time_of p.0) (node_of p.0)) p.0);
    }
  where
    now : ℕ
    now = time_of p.0

    splits : Splits t.rank s.pending p
    splits = earliest-splits t.rank s.pending p q

    whole : Each (FitsIn t) (splits.front ++ p.0 ∷ splits.back)
    whole = subst (Each (FitsIn t)) splits.whole h.fitting

    own-fits : FitsIn t p.0 × Each (FitsIn t) splits.back
    own-fits = Each-back _ splits.front (p.0 ∷ splits.back) whole

    caused-fits : (x : Station L) (e : Event) → Each (FitsIn t) (caused t x e)
    caused-fits x e =
        Each-append _ (arrivals_of t (node_of e) (emissions_at t x e)) (finishes_of (node_of e) (reaction t x e).services)
        (Each-arrivals t x e (FitsIn t) (λ out port node job r. subst (λ o. IfSome o (λ to. Fits t to.0 to.1)) r (keeps.fits (node_of e) out)))
        (Each-finishes t x e (FitsIn t) on_time (λ time server position q. tt))

    least : Each (λ f. is_sooner t.rank f p.0 ≡ false) s.pending
    least = Splits-least t.rank s.pending p (earliest-splits t.rank s.pending p q)

    waited : (v : ℕ) → P v (until t s (time_of p.0) v) (filter (is_finish_at v) s.pending) (time_of p.0)
    waited = holds-until t P keeps s p q h

    -- an event at the node itself
    own : (e : Event) (v : ℕ) → e ≡ p.0 → node_of e ≡ v → P v (acted t (until t s (time_of e) v) e) (filter (is_finish_at v) p.1 ++ finishes_of v (reaction t (until t s (time_of e) v) e).services) (time_of e)
    own (Arrive n u port job) v same here =
        let fails : is_finish_at v p.0 ≡ false = subst (λ x. is_finish_at v x ≡ false) same refl in
        let left : filter (is_finish_at v) s.pending ≡ filter (is_finish_at v) p.1 = filter-earliest_other t.rank (is_finish_at v) s.pending p q fails in
        let later : Each (λ f. time_of p.0 < time_of f) (filter (is_finish_at v) s.pending) =
        Each-filter_if (λ f. time_of p.0 < time_of f) (is_finish_at v) s.pending (Each-weaker _ _ (λ f b a. finish-later t.rank v p.0 f a (subst (λ x. node_of x ≡ v) same here) (λ m. subst (λ x. is_finish_at m x ≡ false) same refl) b) s.pending least) in
        let at : time_of p.0 ≡ n = ap time_of (sym same) in
        let old : P v (until t s n v) (filter (is_finish_at v) p.1) n = subst (λ l. P v (until t s n v) l n) left (subst (λ m. P v (until t s m v) (filter (is_finish_at v) s.pending) m) at (waited v)) in
        let strictly : Each (λ f. n < time_of f) (filter (is_finish_at v) p.1) = subst (Each (λ f. n < time_of f)) left (subst (λ m. Each (λ f. m < time_of f) (filter (is_finish_at v) s.pending)) at later) in
        subst (λ u. P v (acted t (until t s n v) (Arrive n u port job)) (filter (is_finish_at v) p.1 ++ finishes_of v (reaction t (until t s n v) (Arrive n u port job)).services) n) (sym here)
        (keeps.arrives v port job (until t s n v) (filter (is_finish_at v) p.1) n old strictly (subst (λ u. Fits t u port) here (subst (FitsIn t) (sym same) own-fits.0)))
    own (Finish n u server position) v same here =
        let passes : is_finish_at v p.0 ≡ true = subst (λ x. is_finish_at v x ≡ true) same (eq-eqb u v here) in
        let first : earliest t.rank (filter (is_finish_at v) s.pending) ≡ Some (p.0, filter (is_finish_at v) p.1) = earliest-filter t.rank (is_finish_at v) s.pending p q passes in
        let at : time_of p.0 ≡ n = ap time_of (sym same) in
        let is : p.0 ≡ Finish n v server position = sym same ∙ ap (λ m. Finish n m server position) here in
        let old : P v (until t s n v) (filter (is_finish_at v) s.pending) n = subst (λ m. P v (until t s m v) (filter (is_finish_at v) s.pending) m) at (waited v) in
        subst (λ u. P v (acted t (until t s n v) (Finish n u server position)) (filter (is_finish_at v) p.1 ++ finishes_of v (reaction t (until t s n v) (Finish n u server position)).services) n) (sym here)
        (keeps.ends v server position (until t s n v) (filter (is_finish_at v) s.pending) (filter (is_finish_at v) p.1) n old (first ∙ ap (λ x. Some (x, filter (is_finish_at v) p.1)) is))

    owned : (v : ℕ) → node_of p.0 ≡ v → P v (acted t (until t s (time_of p.0) v) p.0) (filter (is_finish_at v) (happens t s p).pending) (time_of p.0)
    owned v here =
        let new : filter (is_finish_at v) (happens t s p).pending ≡ filter (is_finish_at v) p.1 ++ finishes_of (node_of p.0) (reaction t (until t s (time_of p.0) (node_of p.0)) p.0).services =
        finishes-pending t v s p ∙ ap (λ l. filter (is_finish_at v) p.1 ++ l) (finishes-caused t v (until t s (time_of p.0) (node_of p.0)) p.0 here) in
        let moved : filter (is_finish_at v) (happens t s p).pending ≡ filter (is_finish_at v) p.1 ++ finishes_of v (reaction t (until t s (time_of p.0) v) p.0).services =
        subst (λ m. filter (is_finish_at v) (happens t s p).pending ≡ filter (is_finish_at v) p.1 ++ finishes_of m (reaction t (until t s (time_of p.0) m) p.0).services) here new in
        subst (λ l. P v (acted t (until t s (time_of p.0) v) p.0) l (time_of p.0)) (sym moved) (own p.0 v refl here)

    go : (v : ℕ) (b : Bool) → eqb (node_of p.0) v ≡ b → P v ((happens t s p).stations v) (filter (is_finish_at v) (happens t s p).pending) (time_of p.0)
    go v true e = subst (λ x. P v x (filter (is_finish_at v) (happens t s p).pending) (time_of p.0)) (sym (station-own t s p v (eqb-swap (node_of p.0) v true e))) (owned v (eqb-true (node_of p.0) v e))
    go v false e =
        let same : filter (is_finish_at v) s.pending ≡ filter (is_finish_at v) (happens t s p).pending =
        filter-earliest_other t.rank (is_finish_at v) s.pending p q (elsewhere v p.0 e).1
        ∙ sym (finishes-pending t v s p ∙ (ap (λ l. filter (is_finish_at v) p.1 ++ l) (no_finishes-caused t v (until t s (time_of p.0) (node_of p.0)) p.0 e) ∙ append-nil (filter (is_finish_at v) p.1))) in
        subst (λ x. P v x (filter (is_finish_at v) (happens t s p).pending) (time_of p.0)) (sym (station-other t s p v (eqb-swap (node_of p.0) v false e)))
        (subst (λ l. P v (until t s (time_of p.0) v) l (time_of p.0)) same (waited v))

-- after any number of steps the fact holds of each node
pub holds-after : {L : Type 0} (t : Table L) (P : Fact L) → Keeps t P → IsPunctual t → IsFeedForward t → (n : ℕ) (s : State L) → Holds t P s → Holds t P (after n t s)
holds-after t P keeps on_time forward zero s h = rw (after-zero t s) h
holds-after {L} t P keeps on_time forward (suc n) s h = go (earliest t.rank s.pending) refl (holds-after t P keeps on_time forward n)
  where
    go : (r : Option (Event × List Event)) → earliest t.rank s.pending ≡ r → ((s' : State L) → Holds t P s' → Holds t P (after n t s')) → Holds t P (after (suc n) t s)
    go None q ih = rw (after-none (suc n) t s q) h
    go (Some p) q ih = rw (after-some n t s p q) (ih (happens t s p) (holds-happens t P keeps on_time forward s p q h))

pub holds-start : {L : Type 0} (t : Table L) (P : Fact L) → Keeps t P → (starts : List Event) → Each (Begins t) starts → Holds t P (opened t starts)
holds-start t P keeps starts arrive =
    record {
      each = λ u. subst (λ l. P u (record { local = t.opening u; visits = []; emitted = []; area = 0; busy = 0 }) l 0) (sym (filter-none (is_finish_at u) starts (Each-weaker _ _ (λ e h. h.0 u) starts arrive))) (keeps.opens u);
      current = Each-any _ (λ e. omega arith) starts;
      fitting = Each-weaker _ _ (λ e h. h.1) starts arrive;
    }

pub kept : {L : Type 0} (t : Table L) (P : Fact L) → Keeps t P → IsPunctual t → IsFeedForward t → (starts : List Event) → Each (Begins t) starts → (n v : ℕ) → P v ((after n t (opened t starts)).stations v) (filter (is_finish_at v) (after n t (opened t starts)).pending) (after n t (opened t starts)).clock
kept t P keeps on_time forward starts arrive n v = (holds-after t P keeps on_time forward n (opened t starts) (holds-start t P keeps starts arrive)).each v
