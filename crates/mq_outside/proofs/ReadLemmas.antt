-- What the clauses on a read of a file ask of its counts and of its result.
use Rattle.std.proofs.Common.{◌≡◌, ℕ, ◌<◌, ◌≤◌, ◌⊎◌, Bool, true, List, [], ◌∷◌, ◌++◌, length, take, Result, Ok, Err, OnOk, inl, inr, subst, arith}
use Rattle.std.proofs.Math.Seq.{take-length}
use Rattle.std.proofs.lemmas.List.{take-append-le}
use Rattle.std.specs.Bool.{Decides}
use Rattle.std.specs.List.{Contains, IsAnyAnswer}
use Rattle.std.proofs.Math.Dec.{eqb}
use Rattle.std.proofs.lemmas.Bool.Decides.{Decides-eqb}
use Rattle.std.proofs.lemmas.List.Elements.{contains_decides, Decides-contains}
use Rattle.mq_outside.specs.Outside.{next_count, GainsFile, Rose}
use Rattle.mq_outside.specs.Memory.{Grows, is_empty}

-- the number of a read is no less than that of a read before, and lies above it as a count does
pub latest : (faults reads now : ℕ) → faults ≤ reads → reads < 18446744073709551616 → now ≡ next_count reads → (faults ≤ now) × Rose faults now
latest faults reads now within fits is = (omega arith, omega arith)

-- a list that has grown, cut back to what was there
pub cut_back : (old now : List ℕ) (n : ℕ) → n ≡ length old → Grows old now → take n now ≡ old
cut_back old now n at h = rw (at, h.1, take-append-le (length old) old h.0 (omega arith)) (take-length old)

pub ok_not_err : {P T E : Type 0} (x : T) (e : E) → Ok x ≡ Err e → P
ok_not_err x e h = cc

pub err_inner : {T E : Type 0} (d e : E) → ◌≡◌ {A = Result T E} (Err d) (Err e) → d ≡ e
err_inner d e h = cc

-- whether a number is among those that fail, of a list and a number that are known by other words
pub told_in : (xs ys : List ℕ) (x y : ℕ) (r : Bool) → IsAnyAnswer (λ z t. eqb z x ≡ t) xs r → xs ≡ ys → x ≡ y → Decides r (Contains ys y)
told_in xs ys x y r told same at =
    subst (λ zs. Decides r (Contains zs y)) same (subst (λ z. Decides r (Contains xs z)) at (Decides-contains xs x r (contains_decides eqb Decides-eqb xs x r told)))

pub contains_some : (xs : List ℕ) (x : ℕ) → Contains xs x → is_empty xs ≡ true → ⊥
contains_some [] x h none = omega (arith, h.1)
contains_some (y ∷ ys) x h none = cc

pub gains_file : {T E : Type 0} (r : Result T E) (old now bytes : List ℕ) (limit : ℕ) → OnOk r (now ≡ old ++ bytes) → OnOk r (length bytes ≤ limit) → OnOk r (GainsFile old now limit)
gains_file (Ok x) old now bytes limit gained within = record { bytes = bytes; gained = gained; within = within }
gains_file (Err e) old now bytes limit gained within = tt

pub neither : {A B C : Type 0} → (A → ⊥) → (B → ⊥) → A ⊎ B → C
neither f g (inl a) = absurd (f a)
neither f g (inr b) = absurd (g b)
