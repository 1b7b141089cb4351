-- A vector and a matrix as they are stored, with the laws that their ghost members cite: what is stored can be recovered from the
-- value that a contract sees.
use Rattle.std.specs.Prelude.{◌≡◌, ℕ, ◌-◌, ◌≤◌, All, List, ◌++◌, length, take, drop, replicate}
use Rattle.std.proofs.Common.{arith, sym, ap, ◌∙◌, take-append-drop, length-take-le}
use Rattle.mq_maxplus.specs.declared.mp.Mp.{Mp}
use Rattle.mq_maxplus.specs.Matrices.{voids}

-- 16 numbers, all minus infinity after the last row
pub record IsPadded (size : ℕ) (items : List Mp) : Type 0 where
  pub some : 1 ≤ size
  pub few : size ≤ 16
  pub all : length items ≡ 16
  pub padded : drop size items ≡ voids (16 - size)

pub size-back : (size : ℕ) (items : List Mp) → IsPadded size items → length (take size items) ≡ size
size-back size items h = let few = h.few in let all = h.all in length-take-le size items (omega arith)

pub items-back : (size : ℕ) (items : List Mp) → IsPadded size items → take size items ++ voids (16 - length (take size items)) ≡ items
items-back size items h =
    ap (λ n. take size items ++ voids (16 - n)) (size-back size items h)
    ∙ (ap (λ xs. take size items ++ xs) (sym h.padded) ∙ take-append-drop size items)

-- 16 vectors of one size, all minus infinity everywhere after the last column
pub record IsPaddedMatrix (size : ℕ) (columns : List (List Mp)) : Type 0 where
  pub some : 1 ≤ size
  pub few : size ≤ 16
  pub all : length columns ≡ 16
  pub square : All (λ column. length column ≡ size) columns
  pub padded : drop size columns ≡ replicate (16 - size) (voids size)

pub columns-size-back : (size : ℕ) (columns : List (List Mp)) → IsPaddedMatrix size columns → length (take size columns) ≡ size
columns-size-back size columns h = let few = h.few in let all = h.all in length-take-le size columns (omega arith)

pub columns-back : (size : ℕ) (columns : List (List Mp)) → IsPaddedMatrix size columns → take size columns ++ replicate (16 - length (take size columns)) (voids (length (take size columns))) ≡ columns
columns-back size columns h =
    ap (λ n. take size columns ++ replicate (16 - n) (voids n)) (columns-size-back size columns h)
    ∙ (ap (λ xs. take size columns ++ xs) (sym h.padded) ∙ take-append-drop size columns)
