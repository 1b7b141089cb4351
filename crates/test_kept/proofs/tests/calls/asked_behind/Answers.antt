use Rattle.std.proofs.Common.{◌≡◌, ◌+◌, ◌*◌, ◌<◌, ℕ, zero, suc, List, [], ◌∷◌, get_or, min, refl, subst, sym, arith}
use Rattle.mq_redo.specs.Doing.{AreStaying}
use Rattle.mq_scan.specs.Folds.{fold_to}
use Rattle.test_kept.proofs.tests.calls.asked_behind.Goals as goal

-- of five jobs that each leave their number, in blocks of two, the first block
first-behind : (k d : ℕ) → k < 1 → get_or (2 ∷ []) k d ≡ fold_to (λ (j c : ℕ). j + 1) 0 (λ j. j) (min ((k + 1) * 2) 5)
first-behind zero d l = refl
first-behind (suc k) d l = absurd (omega arith)

first-stays : AreStaying (λ (carry : ℕ). carry) (λ (s c : ℕ). s) 0 (λ at. at + 1) 2 1 (1 ∷ 2 ∷ []) (2 ∷ [])
first-stays = record {
  does = λ j c. j + 1;
  jobs = 5;
  within = omega arith;
  same = λ k l c. refl;
  times_are = refl;
  many = omega arith;
  behind = first-behind;
}

pub redone_behind-requires-clause-stays : goal.redone_behind-requires-clause-stays
redone_behind-requires-clause-stays g c =
    subst (λ (z : ℕ × List ℕ). AreStaying (λ (carry : ℕ). carry) (λ (s c : ℕ). s) 0 (λ at. at + 1) z.0 1 z.1 (2 ∷ [])) (λ i. (sym c.cut.ensures.1 i, sym c.in_ok-times.ensures.items i)) first-stays
