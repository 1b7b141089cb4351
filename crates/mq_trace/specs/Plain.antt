-- Plain records, read from the text directly: their fields contain no quotes, except around a whole field.
use Rattle.std.specs.Prelude.{◌≡◌, ◌⊎◌, ◌∷◌, ◌++◌, ◌<◌, ◌==◌, ◌^◌, ◌||◌, [], ℕ, List, Bool, true, false, None, Some, not, length}
use Rattle.std.specs.List.{list_all}
use Rattle.std.specs.Str.Parse.{digits_value}
use Rattle.csv.specs.Records.{fields_of}
use Rattle.mq_base.specs.Text.{number_of}
use Rattle.csv.specs.declared.parser.State.TheVariants as st
use Rattle.mq_core.specs.declared.model.Network.{Network}
use Rattle.mq_trace.specs.Header.{field_of}
use Rattle.mq_trace.specs.Quotes.{has_quote}
use Rattle.mq_trace.specs.Reading.{HoldsValues}
use Rattle.mq_trace.specs.Records.{Record, records_at}
use Rattle.mq_trace.specs.Trace.{row_fault, source_named}
use Rattle.mq_trace.specs.declared.header.Header.{Header}
use Rattle.mq_trace.specs.declared.plain.PlainRow.{PlainRow}
use Rattle.mq_trace.specs.declared.plain_source.PlainSource.{PlainSource}

-- a byte that ends a record
abbrev pub is_line_end : ℕ → Bool
is_line_end c = (c == 13) || (c == 10)

-- a byte of a field without quotes around it
abbrev pub is_plain : ℕ → Bool
is_plain c = not ((c == 34) || (c == 44) || (c == 13) || (c == 10))

-- A text begins with the bytes of a field, as they are or between quotes, and `rest` is left after them. Without quotes around them
-- more of the field may follow: `rest` shows whether it ends there.
abbrev pub IsField : List ℕ → List ℕ → List ℕ → Type 0
IsField text field rest = ((list_all is_plain field ≡ true) × (text ≡ field ++ rest)) ⊎ ((has_quote field ≡ false) × (text ≡ 34 ∷ (field ++ 34 ∷ rest)))

-- its text is the name of its node, as it is or between quotes, and a comma
pub record IsSource (net : Network) (source : PlainSource) : Type 0 where
  pub name : List ℕ
  pub stands : IsField source.text.now name (44 ∷ [])
  pub named : source_named net name ≡ Some source.node

-- a text begins with this source, and `rest` is left after it
pub record IsSourceOf (net : Network) (text : List ℕ) (source : PlainSource) (rest : List ℕ) : Type 0 where
  pub source_is : IsSource net source
  pub begins : text ≡ source.text.now ++ rest

-- a column that isn't read, or a field whose number was noted
abbrev pub IsNoted : Bool → ℕ → List ℕ → Type 0
IsNoted reads value field = (reads ≡ false) ⊎ (number_of field (2 ^ 36) ≡ Some value)

-- a text begins with a comma and the field of a column, and `rest` is left after it
pub record IsColumnField (reads : Bool) (value : ℕ) (text rest : List ℕ) : Type 0 where
  pub from : List ℕ
  pub field : List ℕ
  pub comma : text ≡ 44 ∷ from
  pub follows : IsField from field rest
  pub noted : IsNoted reads value field

-- a record ends where this text begins: it is empty, or begins with a byte that ends a record
abbrev pub ends_record : List ℕ → Bool
ends_record [] = true
ends_record (c ∷ more) = is_line_end c

-- this is the first record of a text, and `rest` is left after it
pub record BeginsWith (text : List ℕ) (first : Record) (rest : List ℕ) : Type 0 where
  pub records : records_at st.StartRecord text ≡ first ∷ records_at st.StartRecord rest
  pub less : length rest < length text

-- what was read is the first record of a text, which has this number and no error
pub record IsFirstRow (net : Network) (header : Header) (text : List ℕ) (number : ℕ) (row : PlainRow) (values : List ℕ) : Type 0 where
  pub fields : Record
  pub first : BeginsWith text fields row.rest.now
  pub clean : row_fault net (fields_of header.names) number fields ≡ None
  pub source : source_named net (field_of fields 0) ≡ Some row.source.node
  pub time : row.time ≡ digits_value 10 (field_of fields 1)
  pub held : HoldsValues header.reads.items values fields
