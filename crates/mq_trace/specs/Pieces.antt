-- A text in pieces, which are cut at line feeds and read separately.
use Rattle.std.specs.Prelude.{◌≡◌, ◌⊎◌, ◌+◌, ◌<◌, ◌≤◌, ◌==◌, [], ℕ, List, flat_map, get_or, length, nat_lt, slice_index_or, if◌then◌else◌, None, Result, true}
use Rattle.mq_core.specs.declared.model.Network.{Network}
use Rattle.mq_core.specs.declared.model.Rows.{Rows}
use Rattle.mq_trace.specs.Quotes.{is_closed}
use Rattle.mq_trace.specs.Records.{Record}
use Rattle.mq_trace.specs.Trace.{Answers, data_of, header_fault, header_of, rows_fault, rows_of, text_records}
use Rattle.mq_trace.specs.declared.fault.TraceFault.{TraceFault}
use Rattle.mq_trace.specs.declared.fault.TraceFault.TheVariants.{TooLong, BadHeader, MissingColumn, TooManyRows, BadCount, UnknownSource, BadNumber, Memory}

-- nothing, or a line feed and what follows
abbrev pub IsRest : List ℕ → Type 0
IsRest text = (text ≡ []) ⊎ (get_or text 0 0 ≡ 10)

-- each piece but the first is empty or begins with a line feed
abbrev pub AreLines : List (List ℕ) → Type 0
AreLines pieces = (k : ℕ) → 0 < k → k < length pieces → IsRest (get_or pieces k [])

-- each piece but the last ends outside quotes
abbrev pub AreClosed : List (List ℕ) → Type 0
AreClosed pieces = (k : ℕ) → k + 1 < length pieces → is_closed true (get_or pieces k []) ≡ true

-- the records of the pieces, each read separately, are those of the text
abbrev pub ArePieces : List ℕ → List (List ℕ) → Type 0
ArePieces text pieces = text_records text ≡ flat_map text_records pieces

-- the data records of a piece: the header is a record of the first
abbrev pub piece_data : ℕ → List ℕ → List Record
piece_data at piece = if at == 0 then data_of (text_records piece) else text_records piece

-- what a reader of these data records returns, which numbers them from 1
abbrev pub Reads : Network → Record → List Record → Result Rows TraceFault → Type 0
Reads net header rs result = Answers result (rows_fault net header 1 rs) (rows_of net header rs)

-- What was read from each piece of a text. The header is the first record of the first piece, and has no error.
pub record AreReadApart (net : Network) (text : List ℕ) (read : List (Result Rows TraceFault)) : Type 0 where
  pub pieces : List (List ℕ)
  pub same : ArePieces text pieces
  pub first : 1 ≤ length (text_records (get_or pieces 0 []))
  pub clean : header_fault net (header_of (text_records text)) ≡ None
  pub len : length read ≡ length pieces
  pub each : (i : ℕ) (d : Result Rows TraceFault) → i < length read → Reads net (header_of (text_records text)) (piece_data i (get_or pieces i [])) (slice_index_or read i d)

-- an error that names a row, unless the row is one too many
abbrev pub if_allowed : ℕ → TraceFault → TraceFault
if_allowed row fault = if nat_lt 1048576 row then TooManyRows else fault

-- an error in data records that follow `before` others
abbrev pub behind : ℕ → TraceFault → TraceFault
behind before TooLong = TooLong
behind before (BadHeader field) = BadHeader field
behind before (MissingColumn column) = MissingColumn column
behind before TooManyRows = TooManyRows
behind before (BadCount row) = if_allowed (before + row) (BadCount (before + row))
behind before (UnknownSource row) = if_allowed (before + row) (UnknownSource (before + row))
behind before (BadNumber row field) = if_allowed (before + row) (BadNumber (before + row) field)
behind before Memory = Memory
