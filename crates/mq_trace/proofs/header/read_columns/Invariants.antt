use Rattle.std.proofs.Common.{◌≡◌, ◌-◌, ◌≤◌, map, take}
use Rattle.csv.specs.Records.{fields_of}
use Rattle.mq_trace.specs.Header.{bad_from, bad_header, columns_of}
use Rattle.mq_trace.proofs.header.read_columns.Given as goal

abbrev pub invariant-loop-index : goal.invariant-loop-index
invariant-loop-index l = record {
  low : 2 ≤ l.index;
  high : l.index ≤ 18;
  names : map (λ s. s.now) l.columns.items ≡ take (l.index - 2) (columns_of (fields_of l.row));
  left : bad_header (fields_of l.row) ≡ bad_from (fields_of l.row) l.index;
}
