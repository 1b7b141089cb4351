-- A run that has ended stays as it is, so that a short run tells of a long one.
use Rattle.std.proofs.Common.{◌≡◌, ℕ, zero, suc, ◌+◌, ◌-◌, ◌≤◌, List, [], Option, Some, None, refl, sym, ap, arith, ◌∙◌}
use Rattle.mq_core.specs.Event.{Event, earliest}
use Rattle.mq_core.specs.Machine.{State, Table, after, happens}
use Rattle.mq_core.proofs.Events.Steps.{after-none, after-some, after-zero}

-- with nothing pending more steps change nothing
pub settled : {L : Type 0} (n : ℕ) (t : Table L) (s : State L) → s.pending ≡ [] → after n t s ≡ s
unfolding earliest
settled n t s e = after-none n t s (ap (earliest t.rank) e)

pub after-more : {L : Type 0} (m n : ℕ) (t : Table L) (s : State L) → after (m + n) t s ≡ after n t (after m t s)
after-more zero n t s = let z : 0 + n ≡ n = omega arith in ap (λ k. after k t s) z ∙ ap (after n t) (sym (after-zero t s))
after-more {L} (suc m) n t s = let z : suc m + n ≡ suc (m + n) = omega arith in ap (λ k. after k t s) z ∙ go (earliest t.rank s.pending) refl (after-more m n t)
  where
    go : (r : Option (Event × List Event)) → earliest t.rank s.pending ≡ r → ((s' : State L) → after (m + n) t s' ≡ after n t (after m t s')) → after (suc (m + n)) t s ≡ after n t (after (suc m) t s)
    go None q ih = after-none (suc (m + n)) t s q ∙ sym (ap (after n t) (after-none (suc m) t s q) ∙ after-none n t s q)
    go (Some p) q ih = after-some (m + n) t s p q ∙ (ih (happens t s p) ∙ ap (after n t) (sym (after-some m t s p q)))

-- what a short run that has ended gives, a longer one gives too
pub settles : {L : Type 0} (m n : ℕ) (t : Table L) (s : State L) → m ≤ n → (after m t s).pending ≡ [] → after n t s ≡ after m t s
settles m n t s l e = ap (λ k. after k t s) (let r : n ≡ m + (n - m) = omega arith in r) ∙ (after-more m (n - m) t s ∙ settled (n - m) t (after m t s) e)
