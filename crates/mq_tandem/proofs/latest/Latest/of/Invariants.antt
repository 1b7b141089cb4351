use Rattle.std.proofs.Common.{◌≡◌, length, take}
use Rattle.mq_tandem.proofs.latest.Latest.of.Given as goal

abbrev pub invariant-loop-row : goal.invariant-loop-row
invariant-loop-row l = record {
  done : take l.row l.all ≡ take l.row l.rows;
  size : length l.all ≡ length l.rows;
}
