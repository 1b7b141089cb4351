-- Times that never fall: those that are passed by another time stand before the others.
use Rattle.std.proofs.Common.{◌≡◌, ℕ, zero, suc, ◌+◌, ◌<◌, ◌≤◌, Bool, true, false, cond, List, [], ◌∷◌, length, get_or, refl, arith}
use Rattle.std.specs.Prelude.{count_by, nat_le}
use Rattle.std.specs.List.{AllByRecursion as Each}
use Rattle.std.proofs.lemmas.Bool.Decides.{nat_tests}
use Rattle.std.proofs.lemmas.List.Sums.{sum_by-le-sum_by}
use Rattle.mq_base.proofs.lemmas.Each.{Each-get_or, Each-weaker}
use Rattle.mq_base.proofs.lemmas.Counts.{at-most-one, count-cons}
use Rattle.mq_core.specs.Laws.{Rises}

-- how many of these times are at most this one
abbrev pub up_to : ℕ → List ℕ → ℕ
up_to time times = count_by (λ t. nat_le t time) times

is-passed : (t time : ℕ) → t ≤ time → 0 + cond (nat_le t time) 1 0 ≡ 1
is-passed t time l = grind (arith, nat_tests)

is-later : (t time : ℕ) → time < t → 0 + cond (nat_le t time) 1 0 ≡ 0
is-later t time l = grind (arith, nat_tests)

pub passed-yes : (time t : ℕ) (times : List ℕ) → t ≤ time → up_to time (t ∷ times) ≡ suc (up_to time times)
passed-yes time t times l = let one = is-passed t time l in let all = count-cons (λ x. nat_le x time) t times in omega arith

pub none-passed : (time : ℕ) (times : List ℕ) → Each (λ t. time < t) times → up_to time times ≡ 0
none-passed time [] h = refl
none-passed time (t ∷ times) h =
    let one = is-later t time h.0 in
    let all = count-cons (λ x. nat_le x time) t times in
    let rest = none-passed time times h.1 in
    omega arith

-- one that is passed stands behind none that isn't
pub passed-one : (time : ℕ) (times : List ℕ) (i : ℕ) → Rises (λ a b. a ≤ b) times → i < length times → get_or times i 0 ≤ time → i < up_to time times
passed-one time [] i h l k = absurd (omega arith)
passed-one time (t ∷ times) zero h l k = let all = passed-yes time t times k in omega arith
passed-one time (t ∷ times) (suc i) h l k =
    let least = Each-get_or (λ x. t ≤ x) times h.0 i 0 (omega arith) in
    let rest = passed-one time times i h.1 (omega arith) k in
    let all = passed-yes time t times (omega arith) in
    omega arith

-- one that isn't passed stands before none that is
pub not-passed : (time : ℕ) (times : List ℕ) (i : ℕ) → Rises (λ a b. a ≤ b) times → i < length times → time < get_or times i 0 → up_to time times ≤ i
not-passed time [] i h l k = absurd (omega arith)
not-passed time (t ∷ times) zero h l k =
    let none = none-passed time (t ∷ times) (k, Each-weaker (λ x. t ≤ x) (λ x. time < x) (λ x m. omega arith) times h.0) in
    omega arith
not-passed time (t ∷ times) (suc i) h l k =
    let rest = not-passed time times i h.1 (omega arith) k in
    let all = count-cons (λ x. nat_le x time) t times in
    let one = at-most-one (nat_le t time) in
    omega arith

grows : (time later t : ℕ) → time ≤ later → cond {A = ℕ} (nat_le t time) 1 0 ≤ cond {A = ℕ} (nat_le t later) 1 0
grows time later t l = grind (arith, nat_tests)

-- what is passed stays so
pub passed-later : (time later : ℕ) (times : List ℕ) → time ≤ later → up_to time times ≤ up_to later times
passed-later time later times l = sum_by-le-sum_by (λ t. cond (nat_le t time) 1 0) (λ t. cond (nat_le t later) 1 0) times (λ t. grows time later t l)

at-most : (t time : ℕ) → nat_le t time ≡ true → t ≤ time
at-most t time e = grind (arith, nat_tests)

above : (t time : ℕ) → nat_le t time ≡ false → time < t
above t time e = grind (arith, nat_tests)

-- an index is passed where the time there is
pub one-passed : (time : ℕ) (times : List ℕ) (index : ℕ) → Rises (λ a b. a ≤ b) times → index < length times → index ≤ up_to time times → index + cond (nat_le (get_or times index 0) time) 1 0 ≤ up_to time times
one-passed time times index h l k = go (nat_le (get_or times index 0) time) refl
  where
    go : (b : Bool) → nat_le (get_or times index 0) time ≡ b → index + cond b 1 0 ≤ up_to time times
    go true e = let more = passed-one time times index h l (at-most (get_or times index 0) time e) in omega arith
    go false e = omega arith

pub none-more : (time : ℕ) (times : List ℕ) (index : ℕ) → Rises (λ a b. a ≤ b) times → index < length times → cond {A = ℕ} (nat_le (get_or times index 0) time) 1 0 ≡ 0 → up_to time times ≤ index
none-more time times index h l = go (nat_le (get_or times index 0) time) refl
  where
    go : (b : Bool) → nat_le (get_or times index 0) time ≡ b → cond {A = ℕ} b 1 0 ≡ 0 → up_to time times ≤ index
    go true e z = absurd (omega arith)
    go false e z = not-passed time times index h l (above (get_or times index 0) time e)

-- the next time is no earlier
pub rises-get : (times : List ℕ) (i : ℕ) → Rises (λ a b. a ≤ b) times → suc i < length times → get_or times i 0 ≤ get_or times (suc i) 0
rises-get [] i h l = absurd (omega arith)
rises-get (t ∷ times) zero h l = Each-get_or (λ x. t ≤ x) times h.0 0 0 (omega arith)
rises-get (t ∷ times) (suc i) h l = rises-get times i h.1 (omega arith)
