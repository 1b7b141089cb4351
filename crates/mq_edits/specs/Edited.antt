-- What edits make from the rows of a trace.
use Rattle.std.specs.Prelude.{◌≡◌, ◌≤◌, ◌<◌, ◌+◌, ◌^◌, ◌∷◌, ◌++◌, [], ℕ, All, IsTrue, List, Some, fold, get_or, length, map, set, slice_get}
use Rattle.std.specs.List.{enumerate_from}
use Rattle.mq_core.specs.Theorems.{IsReadFor}
use Rattle.mq_core.specs.Wiring.{is_source}
use Rattle.mq_core.specs.declared.model.Network.{Network}
use Rattle.mq_core.specs.declared.model.Rows.{Rows}
use Rattle.mq_edits.specs.declared.edit.Edit.{Edit}
use Rattle.mq_edits.specs.declared.edit.Edit.TheVariants.{Set, Add}

-- What an edit says of its row: the source node, the values, and the numbers, which are the time followed by the values.
abbrev pub source_of : Edit → ℕ
source_of (Set row source time values) = source
source_of (Add source time values) = source

abbrev pub values_of : Edit → List ℕ
values_of (Set row source time values) = values
values_of (Add source time values) = values

abbrev pub time_of : Edit → ℕ
time_of (Set row source time values) = time
time_of (Add source time values) = time

abbrev pub number_of : ℕ → Edit → ℕ
number_of place edit = get_or (time_of edit ∷ values_of edit) place 0

-- an edit puts this item of its row into a list with one item per row: in place of the row that it sets, or at the end
abbrev pub edited_by : (Edit → ℕ) → List ℕ → Edit → List ℕ
edited_by item items (Set row source time values) = set items row (item (Set row source time values))
edited_by item items (Add source time values) = items ++ item (Add source time values) ∷ []

-- edits, one after another
abbrev pub edited_list : (Edit → ℕ) → List ℕ → List Edit → List ℕ
edited_list item items edits = fold (edited_by item) items edits

-- the columns after edits, if the first column is at this place
abbrev pub edited_columns : ℕ → List (List ℕ) → List Edit → List (List ℕ)
edited_columns place columns edits = map (λ (at, column). edited_list (number_of at) column edits) (enumerate_from place columns)

-- the rows that edits make, list by list
abbrev pub edited_rows : Rows → List Edit → Rows
edited_rows rows edits = record {
  source = edited_list source_of rows.source edits;
  time = edited_list (number_of 0) rows.time edits;
  demands = edited_columns 1 rows.demands edits;
}

-- the number of rows after an edit
abbrev pub rows_after : ℕ → Edit → ℕ
rows_after rows (Set row source time values) = rows
rows_after rows (Add source time values) = rows + 1

-- an edit of this many rows sets one of them, or adds one if another is allowed
abbrev pub HasPlace : ℕ → Edit → Type 0
HasPlace rows (Set row source time values) = row < rows
HasPlace rows (Add source time values) = rows < 1048576

-- each edit of a list sets an existing row or adds one, given the rows after the edits before it
unfoldable pub AreInPlace : ℕ → List Edit → Type 0
AreInPlace rows [] = Unit {0}
AreInPlace rows (edit ∷ edits) = HasPlace rows edit × AreInPlace (rows_after rows edit) edits

-- each edit has a number at a place
abbrev pub HaveNumbers : ℕ → List Edit → Type 0
HaveNumbers place edits = (k : ℕ) (edit : Edit) → slice_get edits k ≡ Some edit → place ≤ length (values_of edit)

-- an edit is read for a network and this many rows: its row has a source node, a time, and one value per column, within their
-- limits
pub record IsEditFor (net : Network) (rows : ℕ) (edit : Edit) : Type 0 where
  pub place : HasPlace rows edit
  pub source : IsTrue (is_source (slice_get net.nodes (source_of edit)))
  pub early : time_of edit ≤ 2 ^ 60
  pub each : length (values_of edit) ≡ length net.columns
  pub small : All (λ value. value ≤ 2 ^ 36) (values_of edit)

-- edits are read for a network and this many rows, each for the rows after the edits before it
unfoldable pub AreEditsFor : Network → ℕ → List Edit → Type 0
AreEditsFor net rows [] = Unit {0}
AreEditsFor net rows (edit ∷ edits) = IsEditFor net rows edit × AreEditsFor net (rows_after rows edit) edits

-- rows that are read for a network are read for it also after edits that are read for that network and those rows
abbrev pub EditedRowsAreRead : Type 0
EditedRowsAreRead =
    (net : Network) (rows : Rows) (edits : List Edit) → IsReadFor net rows → AreEditsFor net (length rows.source) edits → IsReadFor net (edited_rows rows edits)
