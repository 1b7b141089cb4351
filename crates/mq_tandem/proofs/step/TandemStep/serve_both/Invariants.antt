use Rattle.std.proofs.Common.{drop, map}
use Rattle.mq_core.specs.Recurrences.{firsts}
use Rattle.mq_maxplus.specs.declared.mp.Mp.TheVariants.{At}
use Rattle.mq_maxplus.specs.Maxplus.{mp_or_zero}
use Rattle.mq_maxplus.specs.Matrices.{entry}
use Rattle.mq_tandem.specs.Rows.{job_act, kept, passed}
use Rattle.mq_tandem.proofs.Passing.{Passing}
use Rattle.mq_tandem.proofs.step.TandemStep.serve_both.Given as goal

abbrev pub invariant-loop-stage : goal.invariant-loop-stage
invariant-loop-stage l = record {
  first : Passing (passed (At (mp_or_zero (entry l.fn.first 0))) (kept l.self.places.now) (firsts (map (drop l.at) l.self.demands.now)) l.fn.first) (kept l.self.places.now) (firsts (map (drop l.at) l.self.demands.now)) l.self.rows (At l.bare) l.first l.row l.stage;
  zero : Passing (job_act l.self.places.now l.self.arrive.now l.self.demands.now l.at l.fn.zero) (kept l.self.places.now) (firsts (map (drop l.at) l.self.demands.now)) l.self.rows (At l.time) l.zero l.row l.stage;
}
