use Rattle.std.proofs.Common.{◌≡◌, length, take}
use Rattle.mq_tandem.proofs.both.numbers_of.Given as goal

abbrev pub invariant-loop-row : goal.invariant-loop-row
invariant-loop-row l = record {
  are : take l.row l.all ≡ take l.row l.rows;
  size : length l.all ≡ length l.rows;
}
