use Rattle.std.proofs.Common.{◌-◌, []}
use Rattle.mq_tandem.specs.Rows.{ran}
use Rattle.mq_tandem.proofs.Mapping.{Mapping}
use Rattle.mq_tandem.proofs.step.TandemStep.run_each.Given as goal

abbrev pub invariant-loop-index : goal.invariant-loop-index
invariant-loop-index l = Mapping [] (ran l.self.places.now l.self.arrive.now l.self.demands.now l.from (l.to - l.from)) l.fn.all l.all l.index
