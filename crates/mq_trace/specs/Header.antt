-- The header of a trace: its columns, its first invalid field and the first column that it lacks.
use Rattle.std.specs.Prelude.{◌≡◌, ◌<◌, ◌+◌, ◌-◌, ◌∷◌, ◌++◌, ◌||◌, ◌==◌, [], ℕ, List, drop, take, get_or, Bool, not, Option, Some, None, if◌then◌else◌, position, codes}
use Rattle.std.specs.List.{list_any}
use Rattle.std.specs.Str.{bytes_eq}
use Rattle.mq_core.specs.declared.model.Network.{Network}
use Rattle.mq_trace.specs.Records.{Record}

-- one of these names is this one
abbrev pub is_among : List (List ℕ) → List ℕ → Bool
is_among names name = list_any (λ other. bytes_eq other name) names

-- the field at an index of a record, from 0
abbrev pub field_of : Record → ℕ → List ℕ
field_of r index = get_or r index []

-- the columns of a header are the fields after `source` and `time`
abbrev pub columns_of : Record → List (List ℕ)
columns_of header = drop 2 header

-- these columns have numbers from `number` on: the first that repeats an earlier one or is field 19
unfoldable pub bad_column : ℕ → List (List ℕ) → List (List ℕ) → Option ℕ
bad_column number before [] = None
bad_column number before (name ∷ more) =
    if (number == 19) || is_among before name then Some number else bad_column (number + 1) (before ++ name ∷ []) more

-- the number of the first column, from the field at an index on, that repeats an earlier one or is field 19
abbrev pub bad_from : Record → ℕ → Option ℕ
bad_from header index = bad_column (index + 1) (take (index - 2) (columns_of header)) (drop (index - 2) (columns_of header))

-- the field at an index has this name and neither error
pub record IsNewColumn (header : Record) (index : ℕ) (name : List ℕ) : Type 0 where
  pub more : take (index + 1 - 2) (columns_of header) ≡ take (index - 2) (columns_of header) ++ name ∷ []
  pub good : bad_from header index ≡ bad_from header (index + 1)
  pub few : index < 18

-- the number of the first invalid field of a header, from 1
unfoldable pub bad_header : Record → Option ℕ
bad_header [] = Some 1
bad_header (first ∷ []) = if bytes_eq first (codes "source") then Some 2 else Some 1
bad_header (first ∷ second ∷ columns) =
    if not (bytes_eq first (codes "source")) then Some 1
    else if not (bytes_eq second (codes "time")) then Some 2
    else bad_column 3 [] columns

-- the first column of the model that the header lacks
abbrev pub missing_column : Network → Record → Option ℕ
missing_column net header = position (λ name. not (is_among (columns_of header) name)) net.columns
