-- The rows of before edits, given what the edits left of them and the former rows from one on.
use Rattle.std.specs.Prelude.{◌≡◌, ◌≤◌, ◌+◌, ◌∷◌, ◌++◌, [], ℕ, List, fold, length, min, take}
use Rattle.std.specs.List.{AllZip}
use Rattle.mq_core.specs.declared.model.Rows.{Rows}
use Rattle.mq_edits.specs.Edited.{AreInPlace}
use Rattle.mq_edits.specs.declared.edit.Edit.{Edit}
use Rattle.mq_edits.specs.declared.edit.Edit.TheVariants.{Set, Add}
use Rattle.mq_edits.specs.declared.former.FormerRows.{FormerRows}

-- a list of before: the items below an index as they are now, followed by the former ones
abbrev pub list_before : ℕ → List ℕ → List ℕ → List ℕ
list_before from former items = take from items ++ former

-- each column of before
abbrev pub columns_before : ℕ → List (List ℕ) → List (List ℕ) → List (List ℕ)
columns_before from [] columns = []
columns_before from (former ∷ formers) [] = []
columns_before from (former ∷ formers) (column ∷ columns) = list_before from former column ∷ columns_before from formers columns

-- the rows of before, list by list
abbrev pub rows_before : FormerRows → Rows → Rows
rows_before former rows = record {
  source = list_before former.from former.rows.source rows.source;
  time = list_before former.from former.rows.time rows.time;
  demands = columns_before former.from former.rows.demands rows.demands;
}

-- the former items have room in a list, from an index on
abbrev pub HasRoom : ℕ → List ℕ → List ℕ → Type 0
HasRoom from former items = from + length former ≤ length items

-- former rows have room in rows of as many columns
pub record IsFormerOf (former : FormerRows) (rows : Rows) : Type 0 where
  pub sources : HasRoom former.from former.rows.source rows.source
  pub times : HasRoom former.from former.rows.time rows.time
  pub columns : AllZip (HasRoom former.from) former.rows.demands rows.demands

-- the first row that is set, with another edit
abbrev pub sooner : ℕ → Edit → ℕ
sooner first (Set row source time values) = min first row
sooner first (Add source time values) = first

-- the first row that edits set, or the number of rows if none of them is set
abbrev pub first_set : ℕ → List Edit → ℕ
first_set rows edits = fold sooner rows edits

-- a list that changes only from an index on, and becomes no shorter
pub record StaysUpTo (from : ℕ) (old new : List ℕ) : Type 0 where
  pub front : take from new ≡ take from old
  pub long : length old ≤ length new

-- edits of a list of at most 1,048,576 rows set or add rows as they may, and set none below an index
pub record CanEdit (from : ℕ) (edits : List Edit) (items : List ℕ) : Type 0 where
  pub few : length items ≤ 1048576
  pub places : AreInPlace (length items) edits
  pub first : from ≤ first_set (length items) edits
