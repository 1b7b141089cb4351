-- The two columns of a matrix that jobs go through together.
use Rattle.std.specs.Prelude.{◌≡◌, ℕ, List, [], ◌∷◌, ◌++◌, ◌+◌, length, slice_index_or, take}
use Rattle.mq_maxplus.specs.declared.mp.Mp.{Mp}
use Rattle.mq_maxplus.specs.declared.mp.Mp.TheVariants.{Void}
use Rattle.mq_tandem.specs.declared.both.Both.{Both}
use Rattle.mq_tandem.specs.Rows.{ran, zero_row}

-- these rows with minus infinity in the row of the zero
abbrev pub bare : List ℕ → List Mp → List Mp
bare places rows = take (zero_row places) rows ++ Void ∷ []

-- what the jobs of a range make of the first column of a matrix and of the last, whose index is the row of the zero
pub record AreBoth (places arrive : List ℕ) (demands : List (List ℕ)) (from count : ℕ) (columns : List (List Mp)) (both : Both) : Type 0 where
  pub first : both.first ≡ ran places arrive demands from count (slice_index_or columns 0 [])
  pub zero : both.zero ≡ ran places arrive demands from count (slice_index_or columns (zero_row places) [])
  pub first_size : length both.first ≡ zero_row places + 1
  pub zero_size : length both.zero ≡ zero_row places + 1
