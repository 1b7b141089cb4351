use Rattle.std.proofs.Common.{◌≡◌, ◌+◌, ◌-◌, ◌∙◌, All, ap, length, map, subst, sym, arith}
use Rattle.mq_maxplus.specs.Matrices.{unit_matrix}
use Rattle.mq_maxplus.proofs.MatrixLaws.{length-units}
use Rattle.mq_tandem.specs.Rows.{job_act, RunFits}
use Rattle.mq_tandem.proofs.Begins.{units-fit}
use Rattle.mq_tandem.proofs.Running.{one-fits, one-ran}
use Rattle.mq_tandem.proofs.step.TandemStepStep.one.Goals as goal

pub run_each-requires-clause-size : goal.run_each-requires-clause-size
run_each-requires-clause-size c = ap length c.unit-all.ensures ∙ length-units c.args.self.now.rows

pub run_each-requires-clause-fits : goal.run_each-requires-clause-fits
run_each-requires-clause-fits c =
    let step = c.args.self.now in
    let count : c.args.at + 1 - c.args.at ≡ 1 = omega arith in
    subst (All (RunFits step.places.now step.arrive.now step.demands.now c.args.at (c.args.at + 1 - c.args.at))) (sym c.unit-all.ensures)
    (one-fits step.places.now step.arrive.now step.demands.now c.args.at (c.args.at + 1 - c.args.at) (unit_matrix step.rows) count (units-fit step.arrive.now step.demands.now step.places.now step.load c.args.at step.rows step.all_rows c.requires))

pub returns : goal.returns
returns c =
    let step = c.args.self.now in
    let count : c.args.at + 1 - c.args.at ≡ 1 = omega arith in
    c.run_each.ensures.ran
    ∙ (one-ran step.places.now step.arrive.now step.demands.now c.args.at (c.args.at + 1 - c.args.at) c.unit-all.result count
    ∙ ap (map (job_act step.places.now step.arrive.now step.demands.now c.args.at)) (c.unit-all.ensures ∙ ap unit_matrix step.all_rows))
