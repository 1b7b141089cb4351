-- The rows of pieces, one piece after another, list by list.
use Rattle.std.specs.Prelude.{◌≡◌, ℕ, ◌+◌, ◌-◌, ◌<◌, ◌≤◌, ◌∷◌, [], List, flat_map, get_or, length, slice_get, Result, Ok, Err, Some, IfOk}
use Rattle.mq_core.specs.declared.model.Rows.{Rows}
use Rattle.mq_trace.specs.declared.fault.TraceFault.{TraceFault}
use Rattle.mq_trace.specs.declared.lists.RowList.{RowList}
use Rattle.mq_trace.specs.declared.lists.RowList.TheVariants.{Sources, Numbers}

-- what was read from a piece
abbrev pub Piece : Type 0
Piece = Result Rows TraceFault

-- the sources of a piece; a piece with an error has none
abbrev pub piece_sources : Piece → List ℕ
piece_sources (Ok rows) = rows.source
piece_sources (Err fault) = []

-- the numbers of a piece at a place: its times at 0, then its values in each column
abbrev pub piece_numbers : ℕ → Piece → List ℕ
piece_numbers place (Ok rows) = get_or (rows.time ∷ rows.demands) place []
piece_numbers place (Err fault) = []

-- the sources or numbers of all pieces
abbrev pub all_sources : List Piece → List ℕ
all_sources read = flat_map piece_sources read

abbrev pub all_numbers : ℕ → List Piece → List ℕ
all_numbers place read = flat_map (piece_numbers place) read

-- the list that is made at an index: the columns come first, from the last to the first, then the times, then the sources
abbrev pub IsListAt : ℕ → List Piece → ℕ → RowList → Type 0
IsListAt columns read b (Sources list) = (b ≡ columns + 1) × (list ≡ all_sources read)
IsListAt columns read b (Numbers list) = (b ≤ columns) × (list ≡ all_numbers (columns - b) read)

-- a piece without an error has `columns` columns
abbrev pub HasColumns : ℕ → Piece → Type 0
HasColumns columns piece = IfOk piece (λ rows. length rows.demands ≡ columns)

abbrev pub HaveColumns : ℕ → List Piece → Type 0
HaveColumns columns read = (i : ℕ) (piece : Piece) → slice_get read i ≡ Some piece → HasColumns columns piece

-- the rows are those of the pieces, one piece after another
pub record AreJoined (columns : ℕ) (read : List Piece) (rows : Rows) : Type 0 where
  pub sources : rows.source ≡ all_sources read
  pub times : rows.time ≡ all_numbers 0 read
  pub width : length rows.demands ≡ columns
  pub values : (k : ℕ) → k < columns → get_or rows.demands k [] ≡ all_numbers (k + 1) read
