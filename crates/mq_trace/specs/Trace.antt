-- What a trace says for a network: its first error, if it has one, and the rows that it declares.
use Rattle.std.specs.Prelude.{◌≡◌, ◌≢◌, ◌+◌, ◌^◌, ◌∷◌, ◌&&◌, ◌==◌, [], ℕ, List, length, drop, get_or, map, not, Option, Some, None, Result, Ok, Err, if◌then◌else◌, is_none, nat_lt, option_map, position, unwrap_or}
use Rattle.std.specs.List.{starts_with, position_or_len}
use Rattle.std.specs.Option.{option_or}
use Rattle.std.specs.Str.{bytes_eq}
use Rattle.std.specs.Str.Parse.{digits_value}
use Rattle.csv.specs.Reading.{default_config, records, strip_bom}
use Rattle.mq_base.specs.Text.{number_of}
use Rattle.mq_core.specs.Theorems.{IsReadFor}
use Rattle.mq_core.specs.Wiring.{is_source_kind}
use Rattle.mq_core.specs.declared.model.Network.{Network}
use Rattle.mq_core.specs.declared.model.Node.{Node}
use Rattle.mq_core.specs.declared.model.Rows.{Rows}
use Rattle.mq_trace.specs.Header.{bad_header, columns_of, field_of, is_among, missing_column}
use Rattle.mq_trace.specs.Records.{Record}
use Rattle.mq_trace.specs.declared.fault.TraceFault.{TraceFault}
use Rattle.mq_trace.specs.declared.fault.TraceFault.TheVariants.{TooLong, BadHeader, MissingColumn, TooManyRows, BadCount, UnknownSource, BadNumber, Memory}

abbrev pub header_fault : Network → Record → Option TraceFault
header_fault net header = option_or (option_map (λ n. BadHeader n) (bad_header header)) (option_map (λ n. MissingColumn n) (missing_column net header))

-- the source node with this name
abbrev pub source_named : Network → List ℕ → Option ℕ
source_named net name = position (λ (node : Node). is_source_kind node.kind && bytes_eq node.name name) net.nodes

-- these columns and fields have numbers from `number` on: the first field of a column of the model that isn't a number in range
unfoldable pub bad_value : Network → ℕ → List (List ℕ) → Record → Option ℕ
bad_value net number [] fields = None
bad_value net number (name ∷ columns) [] = None
bad_value net number (name ∷ columns) (text ∷ fields) =
    if is_among net.columns name && is_none (number_of text (2 ^ 36)) then Some number else bad_value net (number + 1) columns fields

-- the error in the data record with this number
unfoldable pub row_fault : Network → Record → ℕ → Record → Option TraceFault
row_fault net header row r =
    if nat_lt 1048576 row then Some TooManyRows
    else if not (length r == length header) then Some (BadCount row)
    else if is_none (source_named net (field_of r 0)) then Some (UnknownSource row)
    else if is_none (number_of (field_of r 1) (2 ^ 60)) then Some (BadNumber row 2)
    else option_map (λ n. BadNumber row n) (bad_value net 3 (columns_of header) (drop 2 r))

-- the first error in data records that have numbers from `row` on
unfoldable pub rows_fault : Network → Record → ℕ → List Record → Option TraceFault
rows_fault net header row [] = None
rows_fault net header row (r ∷ rs) = option_or (row_fault net header row r) (rows_fault net header (row + 1) rs)

-- the index of a column's field
abbrev pub index_of : Record → List ℕ → ℕ
index_of header name = position_or_len (λ other. bytes_eq other name) (columns_of header) + 2

-- the rows of data records: one index per record, in the order of the records
abbrev pub rows_of : Network → Record → List Record → Rows
rows_of net header rs = record {
  source = map (λ r. unwrap_or (source_named net (field_of r 0)) 0) rs;
  time = map (λ r. digits_value 10 (field_of r 1)) rs;
  demands = map (λ name. map (λ r. digits_value 10 (field_of r (index_of header name))) rs) net.columns;
}

-- the records of a text, without one byte order mark, as `csv` defines them
abbrev pub text_records : List ℕ → List Record
text_records text = records default_config (strip_bom text)

-- the first record, which is empty if there is none, and the data records
abbrev pub header_of : List Record → Record
header_of rs = get_or rs 0 []

abbrev pub data_of : List Record → List Record
data_of rs = drop 1 rs

abbrev pub records_fault : Network → List Record → Option TraceFault
records_fault net rs = option_or (header_fault net (header_of rs)) (rows_fault net (header_of rs) 1 (data_of rs))

-- two byte order marks
abbrev pub two_marks : List ℕ
two_marks = 0xEF ∷ 0xBB ∷ 0xBF ∷ 0xEF ∷ 0xBB ∷ 0xBF ∷ []

-- the first error in a text, if it has one
abbrev pub trace_fault : Network → List ℕ → Option TraceFault
trace_fault net text =
    if nat_lt 134217728 (length text) then Some TooLong
    else if starts_with (λ a b. a == b) text two_marks then Some (BadHeader 1)
    else records_fault net (text_records text)

-- the rows that a text declares, if it has no error
abbrev pub rows_in : Network → List ℕ → Rows
rows_in net text = rows_of net (header_of (text_records text)) (data_of (text_records text))

-- unless memory ran out, this is the error
abbrev pub Tells : TraceFault → Option TraceFault → Type 0
Tells e fault = e ≢ Memory → fault ≡ Some e

-- Unless memory ran out, an error is this one; without an error there is none, and the result is these rows.
abbrev pub Answers : {A : Type 0} → Result A TraceFault → Option TraceFault → A → Type 0
Answers (Ok x) fault rows = (fault ≡ None) × (x ≡ rows)
Answers (Err e) fault rows = Tells e fault

-- the network can read the rows of a text without an error
abbrev pub TracesAreRead : Type 0
TracesAreRead = (net : Network) (text : List ℕ) → trace_fault net text ≡ None → IsReadFor net (rows_in net text)
