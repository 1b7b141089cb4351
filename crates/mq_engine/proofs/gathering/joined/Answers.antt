use Rattle.mq_join.specs.Gathers.{came_to}
use Rattle.mq_engine.proofs.Gathers.{one-stream}
use Rattle.mq_engine.proofs.gathering.joined.Goals as goal

pub returns-in-Ok : goal.returns-in-Ok
returns-in-Ok c rows =
    one-stream rows (came_to c.args.gathered.now) c.in_ok-visits.field-0.visits c.in-Ok.streams c.in_ok-visits.field-0.leaving (c.in_ok-visits.ensures.visits rows) (c.in_ok-visits.ensures.leaving rows) c.in-Ok.ensures
