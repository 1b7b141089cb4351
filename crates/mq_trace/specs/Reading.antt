-- What the reader keeps of a header and of rows.
use Rattle.std.specs.Prelude.{◌≡◌, ◌+◌, ◌<◌, ◌≤◌, ◌++◌, ◌∷◌, [], ℕ, Bool, true, false, get_or, length, map, List, None, unwrap_or}
use Rattle.std.specs.Str.Parse.{digits_value}
use Rattle.mq_trace.specs.Records.{Record}
use Rattle.std.specs.List.{position_or_len}
use Rattle.std.specs.Str.{bytes_eq}
use Rattle.csv.specs.Records.{fields_of}
use Rattle.mq_trace.specs.Header.{columns_of, field_of, is_among, missing_column}
use Rattle.mq_trace.specs.Trace.{index_of, rows_fault, source_named}
use Rattle.mq_trace.specs.declared.header.Header.{Header}
use Rattle.mq_core.specs.declared.model.Network.{Network}

pub record IsHeaderOf (net : Network) (h : Header) : Type 0 where
  pub least : 2 ≤ length (fields_of h.names)
  pub most : length (fields_of h.names) ≤ 18
  pub complete : missing_column net (fields_of h.names) ≡ None
  pub reads : h.reads.items ≡ map (λ name. is_among net.columns name) (columns_of (fields_of h.names))
  pub indices : h.indices.items ≡ map (λ name. position_or_len (λ other. bytes_eq other name) (columns_of (fields_of h.names))) net.columns

-- the indices of the columns that are read contain the numbers of a record
abbrev pub HoldsValues : List Bool → List ℕ → Record → Type 0
HoldsValues reads values r = (index : ℕ) → index < length reads → get_or reads index false ≡ true → get_or values index 0 ≡ digits_value 10 (field_of r (index + 2))

-- each list got the value at its index
pub record Pushes (old new : List (List ℕ)) (indices values : List ℕ) : Type 0 where
  pub len : length new ≡ length old
  pub each : (k : ℕ) → k < length old → get_or new k [] ≡ get_or old k [] ++ get_or values (get_or indices k 0) 0 ∷ []

-- what the rows of the data records so far contain; none of the records has an error
pub record RowsSoFar (net : Network) (header : Record) (done : List Record) (source time : List ℕ) (demands : List (List ℕ)) : Type 0 where
  pub clean : rows_fault net header 1 done ≡ None
  pub sources : source ≡ map (λ r. unwrap_or (source_named net (field_of r 0)) 0) done
  pub times : time ≡ map (λ r. digits_value 10 (field_of r 1)) done
  pub width : length demands ≡ length net.columns
  pub values : (k : ℕ) → k < length net.columns → get_or demands k [] ≡ map (λ r. digits_value 10 (field_of r (index_of header (get_or net.columns k [])))) done
