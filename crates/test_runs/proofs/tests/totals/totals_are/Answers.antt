use Rattle.std.proofs.Common.{arith, refl}
use Rattle.test_runs.proofs.tests.totals.totals_are.Goals as goal

pub blocks_added-requires : goal.blocks_added-requires
blocks_added-requires c = record {
  rows = c.args.rows.now;
  kind = c.args.kind.now;
  visits = c.args.visits.now;
  span = 10;
  most = 10;
  from = 0;
  middle = c.args.at;
  to = c.len-count.result;
  sound = c.if-not-are_visits.ensures refl c.args.kind.now c.requires;
  order = omega arith;
  next = omega arith;
  within = omega arith;
  first = c.in_ok-before.ensures;
  second = c.in_ok-after.ensures;
}
