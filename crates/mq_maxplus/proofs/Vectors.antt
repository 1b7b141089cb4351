-- A vector that is made, and one of whose rows is written.
use Rattle.std.proofs.Common.{◌≡◌, ℕ, zero, suc, ◌+◌, ◌<◌, ◌≤◌, List, [], ◌∷◌, ◌++◌, length, take, drop, set, replicate, arith, sym, ap, ◌∙◌, refl}
use Rattle.std.proofs.lemmas.List.{take-replicate, drop-replicate, take_more_set, drop-set-lt, drop-drop, length-set, take_all}
use Rattle.std.proofs.Math.Seq.{take-suc}
use Rattle.mq_maxplus.specs.Maxplus.{mp_max, mp_plus}
use Rattle.mq_maxplus.proofs.MatrixLaws.{length-vplus, length-vmax, max-void, plus-void}
use Rattle.mq_maxplus.specs.declared.mp.Mp.{Mp}
use Rattle.mq_maxplus.specs.declared.mp.Mp.TheVariants.{Void}
use Rattle.mq_maxplus.specs.Matrices.{voids, entry, vec_max, vec_plus}
use Rattle.mq_maxplus.specs.Padded.{IsPadded}

pub new-padded : (size : ℕ) → 1 ≤ size → size ≤ 16 → IsPadded size (replicate 16 Void)
new-padded size some few = record { some = some; few = few; all = refl; padded = drop-replicate size 16 Void }

pub new-voids : (size : ℕ) → size ≤ 16 → take size (replicate 16 Void) ≡ voids size
new-voids size few = take-replicate size 16 Void few

pub entry-vmax : (us vs : List Mp) (row : ℕ) → entry (vec_max us vs) row ≡ mp_max (entry us row) (entry vs row)
entry-vmax [] vs row = refl
entry-vmax (u ∷ us) [] row = sym (max-void (entry (u ∷ us) row))
entry-vmax (u ∷ us) (v ∷ vs) zero = refl
entry-vmax (u ∷ us) (v ∷ vs) (suc row) = entry-vmax us vs row

pub entry-vplus : (x : Mp) (us : List Mp) (row : ℕ) → entry (vec_plus x us) row ≡ mp_plus x (entry us row)
entry-vplus x [] row = sym (plus-void x)
entry-vplus x (u ∷ us) zero = refl
entry-vplus x (u ∷ us) (suc row) = entry-vplus x us row

-- what is left from a row on has its entry in front
pub entry-drop : (xs ys : List Mp) (row : ℕ) → drop row xs ≡ drop row ys → entry xs row ≡ entry ys row
entry-drop xs ys row e = sym (front xs row) ∙ (ap (λ zs. entry zs 0) e ∙ front ys row)
  where
    front : (xs : List Mp) (row : ℕ) → entry (drop row xs) 0 ≡ entry xs row
    front [] zero = refl
    front [] (suc row) = refl
    front (x ∷ xs) zero = refl
    front (x ∷ xs) (suc row) = front xs row

-- lists that agree from an index on do so from the next one on
drop-next : (xs ys : List Mp) (row : ℕ) → drop row xs ≡ drop row ys → drop (row + 1) xs ≡ drop (row + 1) ys
drop-next xs ys row e = sym (drop-drop 1 row xs) ∙ (ap (drop 1) e ∙ drop-drop 1 row ys)

-- What is kept while a vector is covered by another with a number added: the rows before this one are done.
pub record Covering (by : Mp) (other old now : List Mp) (row : ℕ) : Type 0 where
  pub long : length now ≡ length old
  pub done : take row now ≡ take row (vec_max (vec_plus by other) old)
  pub left : drop row now ≡ drop row old

pub length-covered : (by : Mp) (other old : List Mp) → length other ≡ length old → length (vec_max (vec_plus by other) old) ≡ length old
length-covered by other old e = let l = length-vplus by other in length-vmax (vec_plus by other) old (l ∙ e) ∙ (l ∙ e)

pub covering-next : (by : Mp) (other old now now' : List Mp) (row : ℕ) → length other ≡ length old → row < length old → now' ≡ set now row (mp_max (mp_plus by (entry other row)) (entry now row)) → Covering by other old now row → Covering by other old now' (row + 1)
covering-next by other old now now' row e l s h =
    let all = vec_max (vec_plus by other) old in
    let item : mp_max (mp_plus by (entry other row)) (entry now row) ≡ entry all row =
    sym (entry-vmax (vec_plus by other) old row ∙ (λ i. mp_max (entry-vplus by other row i) (sym (entry-drop now old row h.left) i))) in
    let many = h.long in
    let whole = length-covered by other old e in
    let next : suc row ≡ row + 1 = omega arith in
    record {
      long = ap length s ∙ (length-set now row (mp_max (mp_plus by (entry other row)) (entry now row)) ∙ h.long);
      done =
          ap (take (row + 1)) s
          ∙ (take_more_set now row (mp_max (mp_plus by (entry other row)) (entry now row)) (omega arith)
          ∙ ((λ i. h.done i ++ item i ∷ []) ∙ (sym (take-suc all row Void (omega arith)) ∙ ap (λ n. take n all) next)));
      left = ap (drop (row + 1)) s ∙ (drop-set-lt (row + 1) now row (mp_max (mp_plus by (entry other row)) (entry now row)) (omega arith) ∙ drop-next now old row h.left);
    }

pub covering-ends : (by : Mp) (other old now : List Mp) (row : ℕ) → length other ≡ length old → length old ≤ row → Covering by other old now row → now ≡ vec_max (vec_plus by other) old
covering-ends by other old now row e l h =
    let many = h.long in
    let whole = length-covered by other old e in
    sym (take_all row now (omega arith)) ∙ (h.done ∙ take_all row (vec_max (vec_plus by other) old) (omega arith))
