use Rattle.std.proofs.lemmas.Result.{IfOk-weaker}
use Rattle.mq_exits.proofs.Founding.{delays}
use Rattle.mq_exits.proofs.founds.after_delay.Goals as goal

pub returns : goal.returns
returns c =
    let load = c.args.load.now in
    let left = c.leaving_of-departs in
    IfOk-weaker c.on_time.result _ _ (delays load.plan.now load.rows.now load.number load.arrivals.now c.args.overtaken left.result.0 c.in-Ok.found left.result.1 c.requires.overtaken left.ensures.departs left.ensures.leaving c.in-Ok.ensures) c.on_time.ensures
