-- Weights of pending events, and that a weight which falls with each event ends the run.
use Rattle.std.proofs.Common.{◌≡◌, ◌≢◌, ℕ, zero, suc, ◌+◌, ◌-◌, ◌*◌, ◌<◌, ◌≤◌, Bool, true, false, eqb, List, [], ◌∷◌, ◌++◌, length, Option, Some, None, sym, refl, ap, ◌∙◌, subst, arith, eq-eqb, eqb-true}
use Rattle.std.proofs.Math.Nat.{suc-mul}
use Rattle.std.specs.Prelude.{filter, IfSome}
use Rattle.std.specs.List.{AllByRecursion as Each}
use Rattle.mq_base.proofs.lemmas.Each.{Each-append, Each-front, Each-back, not_true}
use Rattle.mq_core.proofs.Events.Areas.{sum-same}
use Rattle.mq_core.specs.Event.{Event, time_of, node_of, earliest}
use Rattle.mq_core.specs.Event.Event.{Arrive, Finish}
use Rattle.mq_core.specs.Machine.{Emission, Service, Table, State, Station, after, happens, caused, arrivals_of, arrival_of, emissions_at, finishes_of, reaction, until, acted, aged, opened}
use Rattle.mq_core.proofs.Events.Tables.{IsPunctual, IsFeedForward}
use Rattle.mq_core.specs.Laws.{is_finish_at}
use Rattle.mq_core.specs.Tallies.{sum_below}
use Rattle.mq_core.proofs.Events.Pending.{earliest-splits, earliest-none, earliest-filter}
use Rattle.mq_core.proofs.Events.Steps.{after-some, after-none, after-zero, station-other, station-own}
use Rattle.mq_core.proofs.Events.Forward.{Each-arrivals, Each-finishes}
use Rattle.mq_core.proofs.Events.Kept.{Begins, Fact, Keeps, Holds, holds-happens, holds-until, holds-start}

-- one summand changes
pub sum_below-one : (n u : ℕ) (f g : ℕ → ℕ) → u < n → ((k : ℕ) → (k ≡ u → ⊥) → f k ≡ g k) → sum_below n f + g u ≡ sum_below n g + f u
sum_below-one zero u f g l h = absurd (omega arith)
sum_below-one (suc n) u f g l h = go (eqb n u) refl (sum_below-one n u f g)
  where
    go : (b : Bool) → eqb n u ≡ b → (u < n → ((k : ℕ) → (k ≡ u → ⊥) → f k ≡ g k) → sum_below n f + g u ≡ sum_below n g + f u) → (f n + sum_below n f) + g u ≡ (g n + sum_below n g) + f u
    go true e ih =
        let same : n ≡ u = eqb-true n u e in
        let rest = sum-same n f g (λ k m. h k (λ q. omega arith)) in
        omega (arith, ap f same, ap g same)
    go false e ih =
        let other : n ≢ u = λ q. let c = eq-eqb n u q in absurd cc in
        let k = ih (omega arith) h in
        omega (arith, h n other, k)

-- the sum of f over a list
abbrev pub sum_over : {X : Type 0} → (X → ℕ) → List X → ℕ
sum_over f [] = 0
sum_over f (x ∷ xs) = f x + sum_over f xs

pub sum_over-append : {X : Type 0} (f : X → ℕ) (xs ys : List X) → sum_over f (xs ++ ys) ≡ sum_over f xs + sum_over f ys
sum_over-append f [] ys = omega arith
sum_over-append f (x ∷ xs) ys = omega (arith, sum_over-append f xs ys)

-- the weight of a pending event
abbrev pub weigh : (ℕ → ℕ) → Event → ℕ
weigh weight (Arrive time node port job) = weight node
weigh weight (Finish time node server position) = 0

-- a weight that falls by at least this much with each event
pub record Falls {L : Type 0} (t : Table L) (P : Fact L) (fall size : ℕ) (weight onward : ℕ → ℕ) (load : ℕ → Station L → ℕ) : Type 0 where
  pub follows : (n out : ℕ) → n < size → IfSome (t.reader n out) (λ to. (to.0 < size) × (weight to.0 ≤ onward n))
  pub waits : (v elapsed : ℕ) (s : Station L) → load v (aged t elapsed v s) ≡ load v s
  pub arrives : (v port job : ℕ) (s : Station L) (fs : List Event) (now : ℕ) → v < size → P v s fs now → load v (acted t s (Arrive now v port job)) + length (emissions_at t s (Arrive now v port job)) * onward v + fall ≤ load v s + weight v
  pub ends : (v server position : ℕ) (s : Station L) (fs rest : List Event) (now : ℕ) → v < size → P v s fs now → earliest t.rank fs ≡ Some (Finish now v server position, rest) → load v (acted t s (Finish now v server position)) + length (emissions_at t s (Finish now v server position)) * onward v + fall ≤ load v s

abbrev pub total : {L : Type 0} → ℕ → (ℕ → ℕ) → (ℕ → Station L → ℕ) → State L → ℕ
total size weight load s = sum_over (weigh weight) s.pending + sum_below size (λ v. load v (s.stations v))

arrivals-weight : {L : Type 0} (t : Table L) (size : ℕ) (weight onward : ℕ → ℕ) (n : ℕ) → ((out : ℕ) → IfSome (t.reader n out) (λ to. (to.0 < size) × (weight to.0 ≤ onward n))) → (ms : List Emission) → sum_over (weigh weight) (arrivals_of t n ms) ≤ length ms * onward n
arrivals-weight t size weight onward n h [] = omega arith
arrivals-weight t size weight onward n h (m ∷ ms) = go (t.reader n m.out) (h m.out) (arrivals-weight t size weight onward n h ms)
  where
    go : (r : Option (ℕ × ℕ)) → IfSome r (λ to. (to.0 < size) × (weight to.0 ≤ onward n)) → sum_over (weigh weight) (arrivals_of t n ms) ≤ length ms * onward n → sum_over (weigh weight) (arrival_of m.time m.job r ++ arrivals_of t n ms) ≤ suc (length ms) * onward n
    go None k ih = let e = suc-mul (length ms) (onward n) in omega arith
    go (Some to) k ih =
        let e = suc-mul (length ms) (onward n) in
        let l = k.1 in
        omega arith

finishes-weight : (weight : ℕ → ℕ) (n : ℕ) (services : List Service) → sum_over (weigh weight) (finishes_of n services) ≡ 0
finishes-weight weight n [] = refl
finishes-weight weight n (s ∷ services) = omega (arith, finishes-weight weight n services)

module _ {L : Type 0} (t : Table L) (P : Fact L) (keeps : Keeps t P) (on_time : IsPunctual t) (forward : IsFeedForward t) (fall size : ℕ) (weight onward : ℕ → ℕ) (load : ℕ → Station L → ℕ) (falls : Falls t P fall size weight onward load) where
  -- what an event adds weighs no more than its emissions may
  caused-weight : (s : Station L) (e : Event) → node_of e < size → sum_over (weigh weight) (caused t s e) ≤ length (emissions_at t s e) * onward (node_of e)
  caused-weight s e l =
      let a = sum_over-append (weigh weight) (arrivals_of t (node_of e) (emissions_at t s e)) (finishes_of (node_of e) (reaction t s e).services) in
      let b = arrivals-weight t size weight onward (node_of e) (λ out. falls.follows (node_of e) out l) (emissions_at t s e) in
      let c = finishes-weight weight (node_of e) (reaction t s e).services in
      omega arith

  caused-inside : (s : Station L) (e : Event) → node_of e < size → Each (λ f. node_of f < size) (caused t s e)
  caused-inside s e l =
      Each-append _ (arrivals_of t (node_of e) (emissions_at t s e)) (finishes_of (node_of e) (reaction t s e).services)
      (Each-arrivals t s e (λ f. node_of f < size) (λ out port node job r. (subst (λ o. IfSome o (λ to. (to.0 < size) × (weight to.0 ≤ onward (node_of e)))) r (falls.follows (node_of e) out l)).0))
      (Each-finishes t s e (λ f. node_of f < size) on_time (λ time server position q. l))

  -- the event itself
  own-falls : (s : State L) (p : Event × List Event) → earliest t.rank s.pending ≡ Some p → Holds t P s → (e : Event) → e ≡ p.0 → node_of e < size → load (node_of e) (acted t (until t s (time_of e) (node_of e)) e) + length (emissions_at t (until t s (time_of e) (node_of e)) e) * onward (node_of e) + fall ≤ load (node_of e) (s.stations (node_of e)) + weigh weight e
  own-falls s p q h (Arrive now v port job) same l =
      let at : time_of p.0 ≡ now = ap time_of (sym same) in
      let fact : P v (until t s now v) (filter (is_finish_at v) s.pending) now = subst (λ m. P v (until t s m v) (filter (is_finish_at v) s.pending) m) at (holds-until t P keeps s p q h v) in
      let less = falls.arrives v port job (until t s now v) (filter (is_finish_at v) s.pending) now l fact in
      let wait = falls.waits v (now - s.clock) (s.stations v) in
      omega arith
  own-falls s p q h (Finish now v server position) same l =
      let at : time_of p.0 ≡ now = ap time_of (sym same) in
      let fact : P v (until t s now v) (filter (is_finish_at v) s.pending) now = subst (λ m. P v (until t s m v) (filter (is_finish_at v) s.pending) m) at (holds-until t P keeps s p q h v) in
      let passes : is_finish_at v p.0 ≡ true = subst (λ x. is_finish_at v x ≡ true) same (eq-eqb v v refl) in
      let first : earliest t.rank (filter (is_finish_at v) s.pending) ≡ Some (Finish now v server position, filter (is_finish_at v) p.1) = earliest-filter t.rank (is_finish_at v) s.pending p q passes ∙ ap (λ x. Some (x, filter (is_finish_at v) p.1)) (sym same) in
      let less = falls.ends v server position (until t s now v) (filter (is_finish_at v) s.pending) (filter (is_finish_at v) p.1) now l fact first in
      let wait = falls.waits v (now - s.clock) (s.stations v) in
      omega arith

  happens-falls : (s : State L) (p : Event × List Event) → earliest t.rank s.pending ≡ Some p → Holds t P s → Each (λ f. node_of f < size) s.pending → total size weight load (happens t s p) + fall ≤ total size weight load s
  happens-falls s p q h inside =
      let k = earliest-splits t.rank s.pending p q in
      let here : node_of p.0 < size = (Each-back (λ f. node_of f < size) k.front (p.0 ∷ k.back) (subst (Each (λ f. node_of f < size)) k.whole inside)).0 in
      let was : sum_over (weigh weight) s.pending ≡ sum_over (weigh weight) k.front + (weigh weight p.0 + sum_over (weigh weight) k.back) = ap (sum_over (weigh weight)) k.whole ∙ sum_over-append (weigh weight) k.front (p.0 ∷ k.back) in
      let left : sum_over (weigh weight) p.1 ≡ sum_over (weigh weight) k.front + sum_over (weigh weight) k.back = ap (sum_over (weigh weight)) k.left ∙ sum_over-append (weigh weight) k.front k.back in
      let new = sum_over-append (weigh weight) p.1 (caused t (until t s (time_of p.0) (node_of p.0)) p.0) in
      let come = caused-weight (until t s (time_of p.0) (node_of p.0)) p.0 here in
      let own = own-falls s p q h p.0 refl here in
      let one = sum_below-one size (node_of p.0) (λ v. load v ((happens t s p).stations v)) (λ v. load v (s.stations v)) here (λ v other. ap (load v) (station-other t s p v (not_true (eqb v (node_of p.0)) (λ e. other (eqb-true v (node_of p.0) e)))) ∙ falls.waits v (time_of p.0 - s.clock) (s.stations v)) in
      let there : load (node_of p.0) ((happens t s p).stations (node_of p.0)) ≡ load (node_of p.0) (acted t (until t s (time_of p.0) (node_of p.0)) p.0) = ap (load (node_of p.0)) (station-own t s p (node_of p.0) (eq-eqb (node_of p.0) (node_of p.0) refl)) in
      add_up _ _ _ _ _ _ _ _ _ _ _ _ was left new come own (one ∙ ap (λ m. sum_below size (λ v. load v (s.stations v)) + m) there)
    where
      add_up : (sp sf w sb p1 pn c m sumf gu sumg fu : ℕ) → sp ≡ sf + (w + sb) → p1 ≡ sf + sb → pn ≡ p1 + c → c ≤ m → fu + m + fall ≤ gu + w → sumf + gu ≡ sumg + fu → (pn + sumf) + fall ≤ sp + sumg
      add_up sp sf w sb p1 pn c m sumf gu sumg fu a b d e f g = omega arith

  inside-happens : (s : State L) (p : Event × List Event) → earliest t.rank s.pending ≡ Some p → Each (λ f. node_of f < size) s.pending → Each (λ f. node_of f < size) (happens t s p).pending
  inside-happens s p q inside =
      let k = earliest-splits t.rank s.pending p q in
      let all = subst (Each (λ f. node_of f < size)) k.whole inside in
      let back = Each-back (λ f. node_of f < size) k.front (p.0 ∷ k.back) all in
      Each-append _ p.1 _ (subst (Each (λ f. node_of f < size)) (sym k.left) (Each-append _ k.front k.back (Each-front _ k.front (p.0 ∷ k.back) all) back.1)) (caused-inside (until t s (time_of p.0) (node_of p.0)) p.0 back.0)

  -- after as many steps as the state weighs nothing is pending
  done-after : 1 ≤ fall → (n : ℕ) (s : State L) → Holds t P s → Each (λ f. node_of f < size) s.pending → total size weight load s ≤ n → (after n t s).pending ≡ []
  done-after some zero s h inside l = rw (after-zero t s) (go (earliest t.rank s.pending) refl)
    where
      go : (r : Option (Event × List Event)) → earliest t.rank s.pending ≡ r → s.pending ≡ []
      go None q = earliest-none t.rank s.pending q
      go (Some p) q = absurd (let less = happens-falls s p q h inside in omega arith)
  done-after some (suc n) s h inside l = go (earliest t.rank s.pending) refl (done-after some n)
    where
      go : (r : Option (Event × List Event)) → earliest t.rank s.pending ≡ r → ((s' : State L) → Holds t P s' → Each (λ f. node_of f < size) s'.pending → total size weight load s' ≤ n → (after n t s').pending ≡ []) → (after (suc n) t s).pending ≡ []
      go None q ih = rw (after-none (suc n) t s q) (earliest-none t.rank s.pending q)
      go (Some p) q ih = rw (after-some n t s p q) (ih (happens t s p) (holds-happens t P keeps on_time forward s p q h) (inside-happens s p q inside) (let less = happens-falls s p q h inside in omega arith))

  -- the same from the start
  pub done-from_start : 1 ≤ fall → (starts : List Event) → Each (Begins t) starts → Each (λ f. node_of f < size) starts → (n : ℕ) → total size weight load (opened t starts) ≤ n → (after n t (opened t starts)).pending ≡ []
  done-from_start some starts arrive inside n l = done-after some n (opened t starts) (holds-start t P keeps starts arrive) inside l

  -- the total weight never grows
  never-grows : (n : ℕ) (s : State L) → Holds t P s → Each (λ f. node_of f < size) s.pending → total size weight load (after n t s) ≤ total size weight load s
  never-grows zero s h inside = rw (after-zero t s) (omega arith)
  never-grows (suc n) s h inside = go (earliest t.rank s.pending) refl (never-grows n)
    where
      go : (r : Option (Event × List Event)) → earliest t.rank s.pending ≡ r → ((s' : State L) → Holds t P s' → Each (λ f. node_of f < size) s'.pending → total size weight load (after n t s') ≤ total size weight load s') → total size weight load (after (suc n) t s) ≤ total size weight load s
      go None q ih = rw (after-none (suc n) t s q) (omega arith)
      go (Some p) q ih =
          rw (after-some n t s p q) (
          let later = ih (happens t s p) (holds-happens t P keeps on_time forward s p q h) (inside-happens s p q inside) in
          let less = happens-falls s p q h inside in
          omega arith
          )

  -- the same from the start
  pub never-grows-from_start : (starts : List Event) → Each (Begins t) starts → Each (λ f. node_of f < size) starts → (n : ℕ) → total size weight load (after n t (opened t starts)) ≤ total size weight load (opened t starts)
  never-grows-from_start starts arrive inside n = never-grows n (opened t starts) (holds-start t P keeps starts arrive) inside
