-- That a node which sends each job on holds none.
use Rattle.std.proofs.Common.{Bool, List, Some, [], ap, arith, eq-eqb, eqb, false, length, refl, suc, sym, true, ℕ, ◌+◌, ◌<◌, ◌∙◌, ◌∷◌, ◌≡◌, ◌≢◌, ◌≤◌}
use Rattle.std.specs.Prelude.{find}
use Rattle.mq_core.specs.Event.{Event}
use Rattle.mq_core.specs.Machine.{Emission, Visit}
use Rattle.mq_core.specs.Emitting.{passed_from}
use Rattle.mq_core.specs.Tallies.{emission_at, one_if_none, staying}
use Rattle.mq_core.proofs.Events.Areas.{sum-none}
use Rattle.mq_core.proofs.Passing.Passes.{Passing}

pub passed-found : (out : Visit → ℕ → ℕ) (k p : ℕ) (visits : List Visit) → k ≤ p → p < k + length visits → (m : Emission) × (find (λ (x : Emission). eqb x.position p) (passed_from out k visits) ≡ Some m)
passed-found out k p [] l u = absurd (omega arith)
passed-found out k p (x ∷ xs) l u = go (eqb k p) refl (passed-found out (suc k) p xs)
  where
    first : Emission
    first = record { out = out x k; position = k; job = x.job; time = x.arrive }

    go : (b : Bool) → eqb k p ≡ b → (suc k ≤ p → p < suc k + length xs → (m : Emission) × (find (λ (y : Emission). eqb y.position p) (passed_from out (suc k) xs) ≡ Some m)) → (m : Emission) × (find (λ (y : Emission). eqb y.position p) (first ∷ passed_from out (suc k) xs) ≡ Some m)
    go true e ih = (first, rw e refl)
    go false e ih =
        let other : k ≢ p = λ q. let c = eq-eqb k p q in absurd cc in
        let r = ih (omega arith) (omega arith) in
        (r.0, rw e r.1)

pub passing-number : (out : Visit → ℕ → ℕ) (visits : List Visit) (emitted : List Emission) (fs : List Event) → Passing out visits emitted fs → 0 ≡ staying visits (emission_at emitted)
passing-number out visits emitted fs h =
    sym (ap (λ l. staying visits (emission_at l)) h.left ∙ sum-none (length visits) _ (λ k l. let r = passed-found out 0 k visits (omega arith) (omega arith) in ap one_if_none r.1))
