use Rattle.std.proofs.Common.{◌≡◌, ◌-◌, length}
use Rattle.mq_tandem.specs.Bare.{bare}
use Rattle.mq_tandem.specs.Rows.{ran}
use Rattle.mq_tandem.proofs.step.TandemStep.run_both.Given as goal

abbrev pub invariant-loop-at : goal.invariant-loop-at
invariant-loop-at l = record {
  first : bare l.self.places.now l.first ≡ ran l.self.places.now l.self.arrive.now l.self.demands.now l.fn.from (l.at - l.fn.from) (bare l.self.places.now l.fn.first);
  zero : l.zero ≡ ran l.self.places.now l.self.arrive.now l.self.demands.now l.fn.from (l.at - l.fn.from) l.fn.zero;
  first_size : length l.first ≡ length l.fn.first;
  zero_size : length l.zero ≡ length l.fn.zero;
}
