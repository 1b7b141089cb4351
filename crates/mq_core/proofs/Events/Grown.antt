-- That what came to a node, and what it let out, stays, and what is new is of now.
use Rattle.std.proofs.Common.{◌≡◌, ℕ, zero, suc, Bool, true, false, eqb, List, [], ◌∷◌, ◌++◌, Option, Some, None, refl, sym, ap, subst, ◌∙◌, append_assoc}
use Rattle.std.proofs.lemmas.List.{append-nil}
use Rattle.std.specs.List.{AllByRecursion as Each}
use Rattle.mq_base.proofs.lemmas.Each.{Each-any}
use Rattle.mq_core.specs.Event.{Event, earliest, node_of, time_of}
use Rattle.mq_core.specs.Event.Event.{Arrive, Finish}
use Rattle.mq_core.specs.Machine.{Emission, State, Station, Table, Visit, acted, after, emissions_at, happens, until}
use Rattle.mq_core.proofs.Events.Forward.{emissions-now}
use Rattle.mq_core.proofs.Events.Steps.{after-none, after-some, after-zero, station-other, station-own}

-- what a node has besides, all of which has this
pub record Grown {L : Type 0} (P : ℕ → Type 0) (a b : Station L) : Type 0 where
  pub came : List Visit
  pub visits : b.visits ≡ a.visits ++ came
  pub comes : Each (λ (x : Visit). P x.arrive) came
  pub left : List Emission
  pub emitted : b.emitted ≡ a.emitted ++ left
  pub leaves : Each (λ (m : Emission). P m.time) left

-- nothing more
grown-same : {L : Type 0} (P : ℕ → Type 0) (a : Station L) → Grown P a a
grown-same P a = record { came = []; visits = sym (append-nil a.visits); comes = tt; left = []; emitted = sym (append-nil a.emitted); leaves = tt }

-- an event at the node
grown-acted : {L : Type 0} (t : Table L) (s : Station L) (e : Event) → Grown (λ n. n ≡ time_of e) s (acted t s e)
grown-acted t s (Arrive now n port job) =
    record {
      came = record { job = job; arrive = now; port = port; found = t.jobs n s.visits s.local } ∷ [];
      visits = refl;
      comes = (refl, tt);
      left = emissions_at t s (Arrive now n port job);
      emitted = refl;
      leaves = emissions-now t s (Arrive now n port job);
    }
grown-acted t s (Finish now n server position) =
    record {
      came = [];
      visits = sym (append-nil s.visits);
      comes = tt;
      left = emissions_at t s (Finish now n server position);
      emitted = refl;
      leaves = emissions-now t s (Finish now n server position);
    }

grown-happens : {L : Type 0} (t : Table L) (s : State L) (p : Event × List Event) (v : ℕ) → Grown (λ n. n ≡ time_of p.0) (s.stations v) ((happens t s p).stations v)
grown-happens t s p v = go (eqb v (node_of p.0)) refl
  where
    go : (b : Bool) → eqb v (node_of p.0) ≡ b → Grown (λ n. n ≡ time_of p.0) (s.stations v) ((happens t s p).stations v)
    go true e = subst (Grown (λ n. n ≡ time_of p.0) (s.stations v)) (sym (station-own t s p v e)) (again (grown-acted t (until t s (time_of p.0) v) p.0))
      where
        again : Grown (λ n. n ≡ time_of p.0) (until t s (time_of p.0) v) (acted t (until t s (time_of p.0) v) p.0) → Grown (λ n. n ≡ time_of p.0) (s.stations v) (acted t (until t s (time_of p.0) v) p.0)
        again g = record { came = g.came; visits = g.visits; comes = g.comes; left = g.left; emitted = g.emitted; leaves = g.leaves }
    go false e = subst (Grown (λ n. n ≡ time_of p.0) (s.stations v)) (sym (station-other t s p v e)) (record { came = []; visits = sym (append-nil (s.stations v).visits); comes = tt; left = []; emitted = sym (append-nil (s.stations v).emitted); leaves = tt })

-- what one step brings is of its time
pub grown-step : {L : Type 0} (t : Table L) (s : State L) (v : ℕ) → Grown (λ n. n ≡ (after 1 t s).clock) (s.stations v) ((after 1 t s).stations v)
grown-step {L} t s v = go (earliest t.rank s.pending) refl
  where
    go : (r : Option (Event × List Event)) → earliest t.rank s.pending ≡ r → Grown (λ n. n ≡ (after 1 t s).clock) (s.stations v) ((after 1 t s).stations v)
    go None q = subst (λ (x : State L). Grown (λ n. n ≡ x.clock) (s.stations v) (x.stations v)) (sym (after-none 1 t s q)) (grown-same _ (s.stations v))
    go (Some p) q = subst (λ (x : State L). Grown (λ n. n ≡ x.clock) (s.stations v) (x.stations v)) (sym (after-some 0 t s p q ∙ after-zero t (happens t s p))) (grown-happens t s p v)

-- what several bring stands behind what was there
pub grown-after : {L : Type 0} (t : Table L) (v n : ℕ) (s : State L) → Grown (λ _. Unit {0}) (s.stations v) ((after n t s).stations v)
grown-after {L} t v zero s = subst (λ (x : State L). Grown (λ _. Unit {0}) (s.stations v) (x.stations v)) (sym (after-zero t s)) (grown-same _ (s.stations v))
grown-after {L} t v (suc n) s = go (earliest t.rank s.pending) refl (grown-after t v n)
  where
    both : (a b c : Station L) (P : ℕ → Type 0) → Grown P a b → Grown (λ _. Unit {0}) b c → Grown (λ _. Unit {0}) a c
    both a b c P g h =
        record {
          came = g.came ++ h.came;
          visits = h.visits ∙ (ap (λ l. l ++ h.came) g.visits ∙ append_assoc a.visits g.came h.came);
          comes = Each-any _ (λ x. tt) (g.came ++ h.came);
          left = g.left ++ h.left;
          emitted = h.emitted ∙ (ap (λ l. l ++ h.left) g.emitted ∙ append_assoc a.emitted g.left h.left);
          leaves = Each-any _ (λ m. tt) (g.left ++ h.left);
        }

    go : (r : Option (Event × List Event)) → earliest t.rank s.pending ≡ r → ((s' : State L) → Grown (λ _. Unit {0}) (s'.stations v) ((after n t s').stations v)) → Grown (λ _. Unit {0}) (s.stations v) ((after (suc n) t s).stations v)
    go None q ih = subst (λ (x : State L). Grown (λ _. Unit {0}) (s.stations v) (x.stations v)) (sym (after-none (suc n) t s q)) (grown-same _ (s.stations v))
    go (Some p) q ih = subst (λ (x : State L). Grown (λ _. Unit {0}) (s.stations v) (x.stations v)) (sym (after-some n t s p q)) (both (s.stations v) ((happens t s p).stations v) ((after n t (happens t s p)).stations v) (λ m. m ≡ time_of p.0) (grown-happens t s p v) (ih (happens t s p)))
