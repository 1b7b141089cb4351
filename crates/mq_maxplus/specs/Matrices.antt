-- Vectors and square matrices under max and plus. A vector is the list of its rows, a matrix the list of its columns. Each column
-- is a vector: what the matrix makes of the vector with a zero in the row of that index and minus infinity in all others.
use Rattle.std.specs.Prelude.{◌≡◌, ℕ, zero, suc, List, [], ◌∷◌, length, map, replicate, slice_index_or, All}
use Rattle.mq_maxplus.specs.declared.mp.Mp.{Mp}
use Rattle.mq_maxplus.specs.declared.mp.Mp.TheVariants.{Void, At}
use Rattle.mq_maxplus.specs.Maxplus.{mp_max, mp_plus, Fits}

-- the vector of this size that is minus infinity everywhere
abbrev pub voids : ℕ → List Mp
voids size = replicate size Void

-- the number in a row
abbrev pub entry : List Mp → ℕ → Mp
entry xs row = slice_index_or xs row Void

-- row by row the greater of two; a vector is minus infinity after its last row
abbrev pub vec_max : List Mp → List Mp → List Mp
vec_max [] ys = ys
vec_max (x ∷ xs) [] = x ∷ xs
vec_max (x ∷ xs) (y ∷ ys) = mp_max x y ∷ vec_max xs ys

-- the same number added in each row
abbrev pub vec_plus : Mp → List Mp → List Mp
vec_plus x xs = map (mp_plus x) xs

-- what a matrix makes of a vector: the greatest, row by row, of its columns, each with the vector's number of that index added
abbrev pub matrix_act : List (List Mp) → List Mp → List Mp
matrix_act [] xs = []
matrix_act (column ∷ columns) [] = []
matrix_act (column ∷ columns) (x ∷ xs) = vec_max (vec_plus x column) (matrix_act columns xs)

-- one row of that: the greatest, over the columns, of the sum of the number there and the vector's number of the column's index
abbrev pub greatest_sum : List (List Mp) → List Mp → ℕ → Mp
greatest_sum [] xs row = Void
greatest_sum (column ∷ columns) [] row = Void
greatest_sum (column ∷ columns) (x ∷ xs) row = mp_max (mp_plus x (entry column row)) (greatest_sum columns xs row)

-- the composition in which the first acts first: the second acts on each column of the first
abbrev pub matrix_then : List (List Mp) → List (List Mp) → List (List Mp)
matrix_then first second = map (matrix_act second) first

-- the matrix that leaves each vector of its size unchanged: zero on the diagonal, minus infinity elsewhere
abbrev pub unit_matrix : ℕ → List (List Mp)
unit_matrix zero = []
unit_matrix (suc size) = (At 0 ∷ voids size) ∷ map (λ column. Void ∷ column) (unit_matrix size)

-- the number of a matrix in a row and a column
abbrev pub matrix_entry : List (List Mp) → ℕ → ℕ → Mp
matrix_entry columns row column = entry (slice_index_or columns column []) row

-- a matrix may act on a vector: they have one size, and each sum in it fits
pub record CanMatrixAct (columns : List (List Mp)) (xs : List Mp) : Type 0 where
  pub same : length xs ≡ length columns
  pub sums : (column row : ℕ) → Fits (mp_plus (entry xs column) (matrix_entry columns row column))

-- a matrix may be composed with another: they have one size, and the second may act on each column of the first
pub record CanMatrixThen (first second : List (List Mp)) : Type 0 where
  pub same : length first ≡ length second
  pub each : All (CanMatrixAct second) first
