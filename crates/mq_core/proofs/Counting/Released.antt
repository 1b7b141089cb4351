-- How much a single release lets out.
use Rattle.std.proofs.Common.{Bool, List, None, Option, Some, [], arith, cond, eqb, eqb-true, false, length, length-append, refl, subst, suc, sym, true, zero, ℕ, ◌*◌, ◌++◌, ◌∷◌, ◌≡◌, ◌≤◌}
use Rattle.std.specs.Prelude.{slice_get}
use Rattle.mq_core.specs.Handling.{queues_up}
use Rattle.mq_core.specs.Local.{Local}
use Rattle.mq_core.specs.Machine.{Emission, Release, Visit, emission_of, emissions_of}
use Rattle.mq_core.specs.Tallies.{emission_at}
use Rattle.mq_core.specs.declared.model.Demand.{Demand}
use Rattle.mq_core.specs.declared.model.Rows.{Rows}

-- at most one emission where at most one position is let out
pub emission-one : (now out position : ℕ) (o : Option Visit) → length (emission_of now out position o ++ []) ≤ 1
emission-one now out position None = omega arith
emission-one now out position (Some x) = omega arith

pub times-one : (k w : ℕ) → k ≤ 1 → k * w ≤ w
times-one zero w h = omega arith
times-one (suc zero) w h = omega arith
times-one (suc (suc k)) w h = absurd (omega arith)

pub queues_up-length : (rows : Rows) (demand : Demand) (visits : List Visit) (local : Local) (now : ℕ) (queue : List ℕ) (position : ℕ) → length (queues_up rows demand visits local now queue position).local.queue ≡ suc (length queue)
queues_up-length rows demand visits local now [] position = refl
queues_up-length rows demand visits local now (front ∷ queue) position = omega (arith, length-append queue (position ∷ []))

pub queues_up-emits : (rows : Rows) (demand : Demand) (visits : List Visit) (local : Local) (now : ℕ) (queue : List ℕ) (position : ℕ) → emissions_of now visits (queues_up rows demand visits local now queue position).releases ≡ []
queues_up-emits rows demand visits local now [] position = refl
queues_up-emits rows demand visits local now (front ∷ queue) position = refl

-- a single release is found at its own position alone
pub one-release : (now out p q : ℕ) (visits : List Visit) (m : Emission) → emission_at (emissions_of now visits (record { out = out; position = p } ∷ [])) q ≡ Some m → q ≡ p
one-release now out p q visits m h = go (slice_get visits p) h
  where
    go : (o : Option Visit) → emission_at (emission_of now out p o ++ []) q ≡ Some m → q ≡ p
    go None k = absurd cc
    go (Some x) k = found (eqb p q) refl k
      where
        found : (b : Bool) → eqb p q ≡ b → cond b (Some (record { out = out; position = p; job = x.job; time = now })) None ≡ Some m → q ≡ p
        found true e f = sym (eqb-true p q e)
        found false e f = absurd cc

pub no_release : (now q : ℕ) (visits : List Visit) (releases : List Release) (m : Emission) → releases ≡ [] → emission_at (emissions_of now visits releases) q ≡ Some m → ⊥
no_release now q visits releases m h e = let c = subst (λ l. emission_at (emissions_of now visits l) q ≡ Some m) h e in absurd cc
