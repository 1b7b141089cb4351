-- What each visit found, by the emissions with which visits leave, however a kind tells these.
use Rattle.std.proofs.Common.{◌≡◌, ℕ, ◌-◌, ◌<◌, Bool, true, false, eqb, eqb-true, eq-eqb, List, [], ◌∷◌, ◌++◌, length, Option, Some, None, sym, refl, ap, ◌∙◌, arith, length-append}
use Rattle.std.specs.Prelude.{nat_lt, slice_get}
use Rattle.std.proofs.Math.Arith.{lt_of_le-ne}
use Rattle.mq_base.proofs.lemmas.Lists.{get-front, get-last}
use Rattle.mq_core.specs.Event.{Event, earliest}
use Rattle.mq_core.specs.Event.Event.{Arrive, Finish}
use Rattle.mq_core.specs.Machine.{Visit, Emission, Table, Station, acted, aged}
use Rattle.mq_core.specs.Tallies.{arrival_or, found_or, one_if_none, sum_below, one_if_there}
use Rattle.mq_core.proofs.Events.Areas.{sum-same}
use Rattle.mq_core.proofs.Events.Kept.{Fact, Fits, Keeps}
use Rattle.mq_core.proofs.Events.Later.{one_if_later}

-- the emission with which the visit at a position of a node leaves, once it has
abbrev pub Exit : Type 0 → Type 0
Exit L = ℕ → Station L → ℕ → Option Emission

-- whether a visit to a node that leaves with an emission is still there for one that comes at a time, at a position
abbrev pub There : Type 0
There = ℕ → ℕ → ℕ → Emission → Bool

-- who leaves does so after those that came before
pub record ExitsInTime {L : Type 0} (t : Table L) (P : Fact L) (Q : ℕ → Type 0) (exit : Exit L) (there : There) : Type 0 where
  -- nobody leaves while time goes by
  pub waits : (v elapsed : ℕ) (s : Station L) (k : ℕ) → exit v (aged t elapsed v s) k ≡ exit v s k
  -- a visit finds those that haven't left
  pub finds : (v port job : ℕ) (s : Station L) (fs : List Event) (now : ℕ) → Q v → Fits t v port → P v s fs now → (k : ℕ) → k < length s.visits → one_if_there (there v) now (length s.visits) (exit v (acted t s (Arrive now v port job)) k) ≡ one_if_none (exit v s k)
  -- at a visit nothing changes in what earlier ones found
  pub arrives : (v port job : ℕ) (s : Station L) (fs : List Event) (now : ℕ) → Q v → Fits t v port → P v s fs now → (k p : ℕ) → k < p → p < length s.visits → one_if_there (there v) (arrival_or 0 (slice_get s.visits p)) p (exit v (acted t s (Arrive now v port job)) k) ≡ one_if_there (there v) (arrival_or 0 (slice_get s.visits p)) p (exit v s k)
  -- nor at a finish
  pub ends : (v server position : ℕ) (s : Station L) (fs rest : List Event) (now : ℕ) → Q v → P v s fs now → earliest t.rank fs ≡ Some (Finish now v server position, rest) → (k p : ℕ) → k < p → p < length s.visits → one_if_there (there v) (arrival_or 0 (slice_get s.visits p)) p (exit v (acted t s (Finish now v server position)) k) ≡ one_if_there (there v) (arrival_or 0 (slice_get s.visits p)) p (exit v s k)
  -- the node holds those that haven't left
  pub number : (v : ℕ) (s : Station L) (fs : List Event) (now : ℕ) → Q v → P v s fs now → t.jobs v s.visits s.local ≡ sum_below (length s.visits) (λ k. one_if_none (exit v s k))

-- each visit found those of the earlier ones that were still there
pub record FoundsBy {L : Type 0} (exit : Exit L) (there : There) (v : ℕ) (s : Station L) : Type 0 where
  pub each : (p : ℕ) → p < length s.visits → found_or 0 (slice_get s.visits p) ≡ sum_below p (λ k. one_if_there (there v) (arrival_or 0 (slice_get s.visits p)) p (exit v s k))

-- whoever leaves as told, each visit found those that were still there
pub keeps-founds_by : {L : Type 0} (t : Table L) (P : Fact L) (Q : ℕ → Type 0) (exit : Exit L) (there : There) → Keeps t P → ExitsInTime t P Q exit there →
    Keeps t (λ v s fs now. P v s fs now × (Q v → FoundsBy exit there v s))
keeps-founds_by {L} t P Q exit there keeps leaves =
    record {
      opens = λ v. (keeps.opens v, λ _. record { each = λ p l. absurd (omega arith) });
      waits = λ v s fs now later h l f. (keeps.waits v s fs now later h.0 l f, λ q. record { each = λ p u. (h.1 q).each p u ∙ sum-same p _ _ (λ k w. ap (one_if_there (there v) (arrival_or 0 (slice_get s.visits p)) p) (sym (leaves.waits v (later - now) s k))) });
      fits = keeps.fits;
      arrives = λ v port job s fs now h f fit. (keeps.arrives v port job s fs now h.0 f fit, λ q. record { each = λ p l. came v port job s fs now q fit h.0 (h.1 q) p (eqb p (length s.visits)) refl l });
      ends = λ v server position s fs rest now h first. (keeps.ends v server position s fs rest now h.0 first, λ q. record { each = λ p l. (h.1 q).each p l ∙ sum-same p _ _ (λ k u. sym (leaves.ends v server position s fs rest now q h.0 first k p u l)) });
    }
  where
    came : (v port job : ℕ) (s : Station L) (fs : List Event) (now : ℕ) → Q v → Fits t v port → P v s fs now → FoundsBy exit there v s → (p : ℕ) (b : Bool) → eqb p (length s.visits) ≡ b → p < length (acted t s (Arrive now v port job)).visits →
        found_or 0 (slice_get (acted t s (Arrive now v port job)).visits p) ≡ sum_below p (λ k. one_if_there (there v) (arrival_or 0 (slice_get (acted t s (Arrive now v port job)).visits p)) p (exit v (acted t s (Arrive now v port job)) k))
    came v port job s fs now q fit h founds p true e l =
        ap (found_or 0) self
        ∙ (leaves.number v s fs now q h
        ∙ (sym (sum-same (length s.visits) _ _ (λ k u. leaves.finds v port job s fs now q fit h k u))
        ∙ (ap (λ n. sum_below n (λ k. one_if_there (there v) now n (exit v next k))) (sym at)
        ∙ ap (λ o. sum_below p (λ k. one_if_there (there v) (arrival_or 0 o) p (exit v next k))) (sym self))))
      where
        x : Visit
        x = record { job = job; arrive = now; port = port; found = t.jobs v s.visits s.local }

        next : Station L
        next = acted t s (Arrive now v port job)

        at : p ≡ length s.visits
        at = eqb-true p (length s.visits) e

        self : slice_get (s.visits ++ x ∷ []) p ≡ Some x
        self = ap (slice_get (s.visits ++ x ∷ [])) at ∙ get-last s.visits x
    came v port job s fs now q fit h founds p false e l =
        ap (found_or 0) front
        ∙ (founds.each p inside
        ∙ (sum-same p _ _ (λ k u. sym (leaves.arrives v port job s fs now q fit h k p u inside))
        ∙ ap (λ o. sum_below p (λ k. one_if_there (there v) (arrival_or 0 o) p (exit v (acted t s (Arrive now v port job)) k))) (sym front)))
      where
        x : Visit
        x = record { job = job; arrive = now; port = port; found = t.jobs v s.visits s.local }

        inside : p < length s.visits
        inside = lt_of_le-ne (omega (arith, length-append s.visits (x ∷ []))) (λ k. let c = eq-eqb p (length s.visits) k in absurd cc)

        front : slice_get (s.visits ++ x ∷ []) p ≡ slice_get s.visits p
        front = get-front s.visits (x ∷ []) p inside

-- whoever leaves later than one comes is there for it
pub until-own : (time position : ℕ) (o : Option Emission) → one_if_there (λ t p (m : Emission). nat_lt t m.time) time position o ≡ one_if_later time o
until-own time position None = refl
until-own time position (Some m) = refl
