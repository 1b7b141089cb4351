use Rattle.std.proofs.Common.{arith}
use Rattle.mq_engine.proofs.places.advance.Goals as goal

pub returns-in_ok-end-in-Keeping : goal.returns-in_ok-end-in-Keeping
returns-in_ok-end-in-Keeping g c = record {
  fit = c.in_ok-end-in-Keeping.ensures.end c.args.keep;
  same = c.in_ok-end-in-Keeping.ensures.same;
  nearer = omega arith;
}
