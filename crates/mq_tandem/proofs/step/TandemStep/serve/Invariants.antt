use Rattle.std.proofs.Common.{drop, map}
use Rattle.mq_core.specs.Recurrences.{firsts}
use Rattle.mq_maxplus.specs.declared.mp.Mp.TheVariants.{At}
use Rattle.mq_tandem.specs.Rows.{job_act, kept}
use Rattle.mq_tandem.proofs.Passing.{Passing}
use Rattle.mq_tandem.proofs.step.TandemStep.serve.Given as goal

abbrev pub invariant-loop-stage : goal.invariant-loop-stage
invariant-loop-stage l =
    Passing (job_act l.self.places.now l.self.arrive.now l.self.demands.now l.at l.fn.latest) (kept l.self.places.now) (firsts (map (drop l.at) l.self.demands.now)) l.self.rows (At l.time) l.latest l.row l.stage
