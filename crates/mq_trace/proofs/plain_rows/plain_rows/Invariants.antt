use Rattle.std.proofs.Common.{◌≡◌, ◌++◌, List, length}
use Rattle.csv.specs.Records.{fields_of}
use Rattle.csv.specs.declared.parser.State.TheVariants as st
use Rattle.mq_trace.specs.Records.{Record, records_at}
use Rattle.mq_trace.specs.Reading.{RowsSoFar}
use Rattle.mq_trace.proofs.PlainRows.{HoldSources}
use Rattle.mq_trace.proofs.plain_rows.plain_rows.Given as goal

abbrev pub invariant-loop-rest : goal.invariant-loop-rest
invariant-loop-rest l = record {
  room : length l.values ≡ 16;
  done : List Record;
  split : records_at st.StartRecord l.text ≡ done ++ records_at st.StartRecord l.rest;
  known : HoldSources l.net l.known l.count;
  rows : RowsSoFar l.net (fields_of l.header.names) done l.rows.source l.rows.time l.rows.demands.items;
}

abbrev pub decreases-loop-rest : goal.decreases-loop-rest
decreases-loop-rest l = length l.rest
