use Rattle.std.proofs.Common.{◌≡◌, ℕ, zero, suc, ◌<◌, List, [], ◌∷◌, refl, rules, sym, subst, arith, Contains}
use Rattle.std.specs.Prelude.{map}
use Rattle.test_runs.proofs.tests.crew.both_are_placed.Goals as goal

three : (x : ℕ) → x < 3 → Contains (2 ∷ 0 ∷ 1 ∷ []) x
three zero lt = (1, omega arith, refl)
three (suc zero) lt = (2, omega arith, refl)
three (suc (suc zero)) lt = (0, omega arith, refl)
three (suc (suc (suc x))) lt = absurd (omega arith)

pub placed-requires-clause-each : goal.placed-requires-clause-each
placed-requires-clause-each c x lt =
    let items : c.in_ok-merged.field-0.items ≡ (2, 4) ∷ (0, 0) ∷ (1, 1) ∷ [] = search rules in
    subst (λ (z : List (ℕ × ℕ)). Contains (map (λ p. p.0) z) x) (sym items) (three x lt)
