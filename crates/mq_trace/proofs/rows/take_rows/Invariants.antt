use Rattle.std.proofs.Common.{◌≡◌, ◌+◌, ◌≤◌, ◌++◌, List, length}
use Rattle.csv.specs.Records.{fields_of}
use Rattle.mq_trace.specs.Reading.{RowsSoFar}
use Rattle.mq_trace.specs.Records.{IsBetween, Record, records_left}
use Rattle.mq_trace.proofs.rows.take_rows.Given as goal

abbrev pub invariant-loop-number : goal.invariant-loop-number
invariant-loop-number l = record {
  between : IsBetween l.reader;
  room : length l.values ≡ 16;
  done : List Record;
  split : records_left l.fn.reader ≡ done ++ records_left l.reader;
  count : 1 + length done ≡ l.number;
  most : l.number ≤ 1048577;
  rows : RowsSoFar l.net (fields_of l.header.names) done l.rows.source l.rows.time l.rows.demands.items;
}
