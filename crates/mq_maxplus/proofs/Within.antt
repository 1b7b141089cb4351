-- From bounds on numbers it follows that sums of them fit, and so that a matrix may act.
use Rattle.std.proofs.Common.{◌≡◌, ℕ, zero, suc, ◌+◌, ◌^◌, ◌<◌, ◌≤◌, List, [], ◌∷◌, All, length, arith}
use Rattle.std.proofs.lemmas.List.Elements.{All-head, All-tail}
use Rattle.mq_maxplus.specs.declared.mp.Mp.{Mp}
use Rattle.mq_maxplus.specs.declared.mp.Mp.TheVariants.{Void, At}
use Rattle.mq_maxplus.specs.Maxplus.{mp_max, mp_plus, Fits}
use Rattle.mq_maxplus.specs.Matrices.{entry, matrix_entry, CanMatrixAct}
use Rattle.mq_maxplus.specs.Within.{IsWithin}

pub within-plus : (x y : Mp) (b c : ℕ) → IsWithin b x → IsWithin c y → IsWithin (b + c) (mp_plus x y)
within-plus Void y b c h k = tt
within-plus (At x) Void b c h k = tt
within-plus (At x) (At y) b c h k = omega arith

pub within-max : (x y : Mp) (b : ℕ) → IsWithin b x → IsWithin b y → IsWithin b (mp_max x y)
within-max Void y b h k = k
within-max (At x) Void b h k = h
within-max (At x) (At y) b h k = omega arith

pub within-more : (x : Mp) (b c : ℕ) → b ≤ c → IsWithin b x → IsWithin c x
within-more Void b c l h = tt
within-more (At x) b c l h = omega arith

pub fits-within : (x : Mp) (b : ℕ) → b < 2 ^ 64 → IsWithin b x → Fits x
fits-within Void b l h = tt
fits-within (At x) b l h = omega arith

pub entry-within : (rows : List Mp) (row b : ℕ) → All (IsWithin b) rows → IsWithin b (entry rows row)
entry-within [] row b h = tt
entry-within (x ∷ rows) zero b h = All-head (IsWithin b) x rows h
entry-within (x ∷ rows) (suc row) b h = entry-within rows row b (All-tail (IsWithin b) x rows h)

-- the numbers of a matrix
pub columns-within : (b : ℕ) (columns : List (List Mp)) → All (All (IsWithin b)) columns → (column row : ℕ) → IsWithin b (matrix_entry columns row column)
columns-within b [] h column row = tt
columns-within b (first ∷ columns) h zero row = entry-within first row b (All-head (All (IsWithin b)) first columns h)
columns-within b (first ∷ columns) h (suc column) row = columns-within b columns (All-tail (All (IsWithin b)) first columns h) column row

-- a matrix may act where the bounds on its numbers and on those of the vector make a sum that fits
pub may-act : (a b : ℕ) (columns : List (List Mp)) (xs : List Mp) → a + b < 2 ^ 64 → length xs ≡ length columns → All (All (IsWithin a)) columns → All (IsWithin b) xs → CanMatrixAct columns xs
may-act a b columns xs l same h k = record {
  same = same;
  sums = λ column row.
      fits-within (mp_plus (entry xs column) (matrix_entry columns row column)) (b + a) (omega arith) (within-plus (entry xs column) (matrix_entry columns row column) b a (entry-within xs column b k) (columns-within a columns h column row));
}
