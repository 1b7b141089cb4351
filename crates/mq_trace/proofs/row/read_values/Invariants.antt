use Rattle.std.proofs.Common.{◌≡◌, ◌+◌, ◌<◌, ℕ, drop, get_or, true, false}
use Rattle.std.specs.Str.Parse.{digits_value}
use Rattle.csv.specs.Records.{fields_of}
use Rattle.mq_trace.specs.Header.{columns_of, field_of}
use Rattle.mq_trace.specs.Trace.{bad_value}
use Rattle.mq_trace.proofs.row.read_values.Given as goal

abbrev pub invariant-loop-index : goal.invariant-loop-index
invariant-loop-index l = record {
  left : bad_value l.net 3 (columns_of (fields_of l.header.names)) (drop 2 (fields_of l.row)) ≡ bad_value l.net (l.index + 3) (drop l.index (columns_of (fields_of l.header.names))) (drop l.index (drop 2 (fields_of l.row)));
  held : (k : ℕ) → k < l.index → get_or l.header.reads.items k false ≡ true → get_or l.values k 0 ≡ digits_value 10 (field_of (fields_of l.row) (k + 2));
}
