-- The laws of affine maps.
use Rattle.std.proofs.Common.{◌≡◌, ℕ, ◌+◌, refl, sym, ap, arith, add_assoc}
use Rattle.mq_maxplus.specs.declared.mp.Mp.{Mp}
use Rattle.mq_maxplus.specs.declared.mp.Mp.TheVariants.{Void, At}
use Rattle.mq_maxplus.specs.declared.affine.Affine.{Affine}
use Rattle.mq_maxplus.specs.Maxplus.{mp_max, mp_plus, affine, affine_act, affine_then}

-- adding after a maximum is the maximum of the sums, step by step
pub steps : (x d e : Mp) (a b : ℕ) → mp_max (mp_plus x (At (a + b))) (mp_max (mp_plus d (At b)) e) ≡ mp_max (mp_plus (mp_max (mp_plus x (At a)) d) (At b)) e
steps Void Void e a b = refl
steps Void (At d) e a b = refl
steps (At x) Void Void a b = ap At (omega arith)
steps (At x) Void (At e) a b = ap At (omega arith)
steps (At x) (At d) Void a b = ap At (omega arith)
steps (At x) (At d) (At e) a b = ap At (omega arith)

pub acts : (s t : Affine) (x : Mp) → affine_act (affine_then s t) x ≡ affine_act t (affine_act s x)
acts s t x = steps x s.least t.least s.add t.add

pub joins : (s t u : Affine) → affine_then (affine_then s t) u ≡ affine_then s (affine_then t u)
joins s t u = λ i. affine (add_assoc s.add t.add u.add i) (sym (steps s.least t.least u.least t.add u.add) i)
