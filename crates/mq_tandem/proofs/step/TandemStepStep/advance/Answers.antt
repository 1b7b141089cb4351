use Rattle.std.proofs.Common.{◌∙◌, sym}
use Rattle.mq_tandem.specs.Linear.{matrix-acts}
use Rattle.mq_tandem.proofs.Columns.{job-size, row-fits}
use Rattle.mq_tandem.proofs.step.TandemStepStep.advance.Goals as goal

pub serve-requires-clause-size : goal.serve-requires-clause-size
serve-requires-clause-size c =
    let step = c.args.self.now in
    c.requires.can.sums.same ∙ (job-size step.places.now step.arrive.now step.demands.now c.args.at ∙ sym step.all_rows)

pub serve-requires-clause-fits : goal.serve-requires-clause-fits
serve-requires-clause-fits c =
    let step = c.args.self.now in
    row-fits step.places.now step.arrive.now step.demands.now c.args.at c.args.carry.now c.requires.can.sums

pub returns : goal.returns
returns c =
    let step = c.args.self.now in
    c.serve.ensures ∙ sym (matrix-acts step.places.now step.arrive.now step.demands.now c.args.at c.args.carry.now (c.requires.can.sums.same ∙ job-size step.places.now step.arrive.now step.demands.now c.args.at))
