use Rattle.mq_redo.proofs.Staying.{done-kept}
use Rattle.mq_redo.proofs.laws.done_are_kept.Goals as goal

pub returns : goal.returns
returns g c =
    let step = c.args.step.now in
    done-kept (g.P.Timed.time_of step) g.P.Step.acted (g.P.Step.start step) (g.P.Step.part step)
