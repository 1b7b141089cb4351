use Rattle.std.proofs.Common.{◌≡◌, length}
use Rattle.mq_trace.proofs.PlainRows.{RowSoFar}
use Rattle.mq_trace.proofs.plain.plain_row.Given as goal

abbrev pub invariant-loop-index : goal.invariant-loop-index
invariant-loop-index l = record {
  room : length l.values ≡ 16;
  so_far : RowSoFar l.net l.header l.text l.index l.first.source.node l.time l.values l.end;
}
