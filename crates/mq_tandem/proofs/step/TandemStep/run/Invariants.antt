use Rattle.std.proofs.Common.{◌≡◌, ◌-◌, length}
use Rattle.mq_tandem.specs.Rows.{ran}
use Rattle.mq_tandem.proofs.step.TandemStep.run.Given as goal

abbrev pub invariant-loop-at : goal.invariant-loop-at
invariant-loop-at l = record {
  ran : l.rows ≡ ran l.self.places.now l.self.arrive.now l.self.demands.now l.fn.from (l.at - l.fn.from) l.fn.rows;
  size : length l.rows ≡ length l.fn.rows;
}
