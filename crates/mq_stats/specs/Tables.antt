-- Tables of counts of waits, and the index up to which a given number of waits is counted.
use Rattle.std.specs.Prelude.{◌≡◌, ℕ, ◌+◌, ◌-◌, ◌<◌, ◌≤◌, ◌==◌, List, count_by, get_or, length, sum, take}

-- a table of counts: each index but the last has the number of these waits that equal it
pub record IsTableOf (waits table : List ℕ) : Type 0 where
  pub counts : (wait : ℕ) → wait + 1 < length table → get_or table wait 0 ≡ count_by (λ w. w == wait) waits

-- the number of waits that such a table counts before its last index, each at its own value
abbrev pub own_counts : List ℕ → ℕ
own_counts table = sum (take (length table - 1) table)

-- the first index but the last of such a table up to which at least `many` waits are counted
pub record IsReached (table : List ℕ) (many wait : ℕ) : Type 0 where
  pub own : wait + 1 < length table
  pub enough : many ≤ sum (take (wait + 1) table)
  pub first : 0 < wait → sum (take wait table) < many
