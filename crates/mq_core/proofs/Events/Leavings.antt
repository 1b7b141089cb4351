-- The area of a node, by when each visit left, however that is told.
use Rattle.std.proofs.Common.{◌≡◌, ◌⊎◌, inl, inr, ℕ, suc, ◌+◌, ◌-◌, ◌*◌, ◌<◌, ◌≤◌, Bool, true, false, eqb, eqb-true, eq-eqb, subst, List, [], ◌∷◌, ◌++◌, length, Option, Some, None, sym, refl, ap, ◌∙◌, arith, length-append}
use Rattle.std.specs.Prelude.{slice_get}
use Rattle.std.specs.Option.{option_map}
use Rattle.std.specs.List.{AllByRecursion as Each}
use Rattle.mq_base.proofs.lemmas.Each.{Each-append, Each-weaker}
use Rattle.mq_base.proofs.lemmas.Lists.{get-front, get-last, some_inj}
use Rattle.mq_core.specs.Event.{Event, earliest}
use Rattle.mq_core.specs.Event.Event.{Arrive, Finish}
use Rattle.mq_core.specs.Machine.{Visit, Emission, Table, Station, acted, aged}
use Rattle.mq_core.specs.Tallies.{sum_below, arrival_or, emission_at}
use Rattle.mq_core.proofs.Events.Areas.{get-visit, sum-same, sum-grows}
use Rattle.mq_core.proofs.Events.Founds.{emission_at-append, found-each}
use Rattle.mq_core.proofs.Events.Kept.{Fact, Fits, Keeps}

-- when the visit at a position of a node left, if it did
abbrev pub Left : Type 0 → Type 0
Left L = ℕ → Station L → ℕ → Option ℕ

-- when it left that leaves with an emission, once it does
abbrev pub time_of_exit : Option Emission → Option ℕ
time_of_exit o = option_map (λ (m : Emission). m.time) o

-- by now: to when it left, if it did
abbrev pub until_or : ℕ → Option ℕ → ℕ
until_or now None = now
until_or now (Some time) = time

-- 1 where it hasn't left
abbrev pub one_if_here : Option ℕ → ℕ
one_if_here None = 1
one_if_here (Some time) = 0

-- how long a visit has been in the node by now
abbrev pub stay_by : {L : Type 0} → Left L → ℕ → ℕ → Station L → ℕ → ℕ
stay_by left v now s k = until_or now (left v s k) - arrival_or 0 (slice_get s.visits k)

-- as it was before an event, or only now
abbrev pub StaysOrLeaves : ℕ → Option ℕ → Option ℕ → Type 0
StaysOrLeaves now before after = (after ≡ before) ⊎ ((before ≡ None) × (after ≡ Some now))

-- who leaves does so at an event of the node, then and for good
pub record LeavesNow {L : Type 0} (t : Table L) (P : Fact L) (Q : ℕ → Type 0) (left : Left L) : Type 0 where
  -- nobody leaves while time goes by
  pub waits : (v elapsed : ℕ) (s : Station L) (k : ℕ) → left v (aged t elapsed v s) k ≡ left v s k
  -- at a visit each earlier one stays as it was, or leaves now
  pub arrives : (v port job : ℕ) (s : Station L) (fs : List Event) (now : ℕ) → Q v → Fits t v port → P v s fs now → (k : ℕ) → k < length s.visits → StaysOrLeaves now (left v s k) (left v (acted t s (Arrive now v port job)) k)
  -- the visit itself has not left, or leaves now
  pub comes : (v port job : ℕ) (s : Station L) (fs : List Event) (now : ℕ) → Q v → Fits t v port → P v s fs now → StaysOrLeaves now None (left v (acted t s (Arrive now v port job)) (length s.visits))
  -- the same at a finish
  pub ends : (v server position : ℕ) (s : Station L) (fs rest : List Event) (now : ℕ) → Q v → P v s fs now → earliest t.rank fs ≡ Some (Finish now v server position, rest) → (k : ℕ) → k < length s.visits → StaysOrLeaves now (left v s k) (left v (acted t s (Finish now v server position)) k)
  -- the node holds those that have not left
  pub number : (v : ℕ) (s : Station L) (fs : List Event) (now : ℕ) → Q v → P v s fs now → t.jobs v s.visits s.local ≡ sum_below (length s.visits) (λ k. one_if_here (left v s k))

-- the area is the sum of the stays so far
pub record AreasBy {L : Type 0} (left : Left L) (v : ℕ) (s : Station L) (now : ℕ) : Type 0 where
  pub area : s.area ≡ sum_below (length s.visits) (stay_by left v now s)
  pub came : Each (λ (x : Visit). x.arrive ≤ now) s.visits
  -- nobody left before it came
  pub late : (k time : ℕ) → k < length s.visits → left v s k ≡ Some time → arrival_or 0 (slice_get s.visits k) ≤ time

-- an event now changes no stay
now-same : (now : ℕ) (before after : Option ℕ) → StaysOrLeaves now before after → until_or now after ≡ until_or now before
now-same now before after (inl e) = ap (until_or now) e
now-same now before after (inr e) = ap (until_or now) e.1 ∙ sym (ap (until_or now) e.0)

-- while time goes by those that are there stay
stay-grows : (now later a : ℕ) (o : Option ℕ) → now ≤ later → a ≤ now → until_or later o - a ≡ (until_or now o - a) + one_if_here o * (later - now)
stay-grows now later a None l u = omega arith
stay-grows now later a (Some time) l u = omega arith

-- whoever leaves as told, its area is the sum of the stays
pub keeps-areas_by : {L : Type 0} (t : Table L) (P : Fact L) (Q : ℕ → Type 0) (left : Left L) → Keeps t P → LeavesNow t P Q left →
    Keeps t (λ v s fs now. P v s fs now × (Q v → AreasBy left v s now))
keeps-areas_by {L} t P Q left keeps leaves =
    record {
      opens = λ v. (keeps.opens v, λ _. record { area = refl; came = tt; late = λ k time l e. absurd (omega arith) });
      waits = λ v s fs now later h l f. (keeps.waits v s fs now later h.0 l f, λ q. waited v s fs now later l (leaves.number v s fs now q h.0) (h.1 q));
      fits = keeps.fits;
      arrives = λ v port job s fs now h f fit. (keeps.arrives v port job s fs now h.0 f fit, λ q. came v port job s fs now q fit h.0 (h.1 q));
      ends = λ v server position s fs rest now h first. (
        keeps.ends v server position s fs rest now h.0 first,
        λ q. let a = h.1 q in record {
          area = a.area ∙ sym (sum-same (length s.visits) _ _ (λ k l. ap (λ n. n - arrival_or 0 (slice_get s.visits k)) (now-same now _ _ (leaves.ends v server position s fs rest now q h.0 first k l))));
          came = a.came;
          late = λ k time l e. later now (arrival_or 0 (slice_get s.visits k)) time _ _ (leaves.ends v server position s fs rest now q h.0 first k l) (get-visit now s.visits k l a.came) (a.late k time l) e;
        },
      );
    }
  where
    -- who leaves at an event came no later
    later : (now arrive time : ℕ) (before after : Option ℕ) → StaysOrLeaves now before after → arrive ≤ now → (before ≡ Some time → arrive ≤ time) → after ≡ Some time → arrive ≤ time
    later now arrive time before after (inl e) l h f = h (sym e ∙ f)
    later now arrive time before after (inr e) l h f = let same : now ≡ time = some_inj now time (sym e.1 ∙ f) in omega arith

    waited : (v : ℕ) (s : Station L) (fs : List Event) (now moment : ℕ) → now ≤ moment → t.jobs v s.visits s.local ≡ sum_below (length s.visits) (λ k. one_if_here (left v s k)) → AreasBy left v s now → AreasBy left v (aged t (moment - now) v s) moment
    waited v s fs now moment l number a =
        record {
          area =
              ap (λ k. s.area + k * (moment - now)) number
              ∙ (ap (λ k. k + sum_below (length s.visits) (λ i. one_if_here (left v s i)) * (moment - now)) a.area
              ∙ sym (sum-grows (length s.visits) (moment - now) (stay_by left v moment (aged t (moment - now) v s)) (stay_by left v now s) (λ k. one_if_here (left v s k))
              (λ k u. ap (λ o. until_or moment o - arrival_or 0 (slice_get s.visits k)) (leaves.waits v (moment - now) s k) ∙ stay-grows now moment (arrival_or 0 (slice_get s.visits k)) (left v s k) l (get-visit now s.visits k u a.came))));
          came = Each-weaker _ _ (λ x q. omega arith) s.visits a.came;
          late = λ k time u e. a.late k time u (sym (leaves.waits v (moment - now) s k) ∙ e);
        }

    came : (v port job : ℕ) (s : Station L) (fs : List Event) (now : ℕ) → Q v → Fits t v port → P v s fs now → AreasBy left v s now → AreasBy left v (acted t s (Arrive now v port job)) now
    came v port job s fs now q fit h a =
        record {
          area = a.area ∙ sym (ap (λ k. sum_below k (stay_by left v now next)) size ∙ last);
          came = Each-append _ s.visits _ a.came (omega arith, tt);
          late = λ k time l e. own-late k time (eqb k (length s.visits)) refl l e;
        }
      where
        x : Visit
        x = record { job = job; arrive = now; port = port; found = t.jobs v s.visits s.local }

        next : Station L
        next = acted t s (Arrive now v port job)

        size : length (s.visits ++ x ∷ []) ≡ suc (length s.visits)
        size = omega (arith, length-append s.visits (x ∷ []))

        own : until_or now (left v (acted t s (Arrive now v port job)) (length s.visits)) ≡ now
        own = now-same now None _ (leaves.comes v port job s fs now q fit h)

        index : arrival_or 0 (slice_get (s.visits ++ x ∷ []) (length s.visits)) ≡ now
        index = ap (arrival_or 0) (get-last s.visits x)

        -- a visit at its own event, or an earlier one
        own-late : (k time : ℕ) (b : Bool) → eqb k (length s.visits) ≡ b → k < length next.visits → left v next k ≡ Some time → arrival_or 0 (slice_get next.visits k) ≤ time
        own-late k time true same l e =
            let at = eqb-true k (length s.visits) same in
            let here : arrival_or 0 (slice_get (s.visits ++ x ∷ []) k) ≡ now = ap (λ j. arrival_or 0 (slice_get (s.visits ++ x ∷ []) j)) at ∙ index in
            let leaves_now = later now now time None _ (leaves.comes v port job s fs now q fit h) (omega arith) (λ c. absurd cc) (ap (left v next) (sym at) ∙ e) in
            omega arith
        own-late k time false other l e =
            let inside : k < length s.visits = less (λ c. let d = eq-eqb k (length s.visits) c in absurd cc) (omega (arith, size)) in
            subst (λ o. arrival_or 0 o ≤ time) (sym (get-front s.visits (x ∷ []) k inside))
            (later now (arrival_or 0 (slice_get s.visits k)) time _ _ (leaves.arrives v port job s fs now q fit h k inside) (get-visit now s.visits k inside a.came) (a.late k time inside) e)
          where
            less : (k ≡ length s.visits → ⊥) → k < suc (length s.visits) → k < length s.visits
            less apart u = omega arith

        last : sum_below (suc (length s.visits)) (stay_by left v now (acted t s (Arrive now v port job))) ≡ sum_below (length s.visits) (stay_by left v now s)
        last =
            omega (
              arith,
              own,
              index,
              sum-same (length s.visits) (stay_by left v now (acted t s (Arrive now v port job))) (stay_by left v now s)
                  (λ k l. (λ i. now-same now _ _ (leaves.arrives v port job s fs now q fit h k l) i - arrival_or 0 (get-front s.visits (x ∷ []) k l i))),
            )

-- emissions now let out a position for good, or now
pub emissions-leave : (now k : ℕ) (emitted more : List Emission) → Each (λ (m : Emission). m.time ≡ now) more → StaysOrLeaves now (option_map (λ (m : Emission). m.time) (emission_at emitted k)) (option_map (λ (m : Emission). m.time) (emission_at (emitted ++ more) k))
emissions-leave now k emitted more same = go (emission_at-append emitted more k)
  where
    new : (o : Option Emission) → emission_at more k ≡ o → emission_at emitted k ≡ None → emission_at (emitted ++ more) k ≡ emission_at more k → StaysOrLeaves now (option_map (λ (m : Emission). m.time) (emission_at emitted k)) (option_map (λ (m : Emission). m.time) (emission_at (emitted ++ more) k))
    new None e none all = inl (ap (option_map (λ (m : Emission). m.time)) (all ∙ (e ∙ sym none)))
    new (Some m) e none all = inr (ap (option_map (λ (n : Emission). n.time)) none, ap (option_map (λ (n : Emission). n.time)) (all ∙ e) ∙ ap Some (found-each (λ (n : Emission). n.time ≡ now) more k m same e))

    go : ((m : Emission) × (emission_at emitted k ≡ Some m) × (emission_at (emitted ++ more) k ≡ Some m)) ⊎ ((emission_at emitted k ≡ None) × (emission_at (emitted ++ more) k ≡ emission_at more k)) → StaysOrLeaves now (option_map (λ (m : Emission). m.time) (emission_at emitted k)) (option_map (λ (m : Emission). m.time) (emission_at (emitted ++ more) k))
    go (inl e) = inl (ap (option_map (λ (m : Emission). m.time)) (e.2 ∙ sym e.1))
    go (inr e) = new (emission_at more k) refl e.0 e.1
