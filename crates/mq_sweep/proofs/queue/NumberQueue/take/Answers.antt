use Rattle.std.proofs.Common.{◌≤◌, ap}
use Rattle.crossbeam_queue.specs.Passes.{view}
use Rattle.mq_sweep.specs.QueueRule.{SeatState}
use Rattle.mq_sweep.proofs.QueueRule.{learns, takes}
use Rattle.mq_sweep.proofs.queue.NumberQueue.take.Goals as goal

pub pop_as-requires-clause-rule : goal.pop_as-requires-clause-rule
pop_as-requires-clause-rule g c = let some_right : 1 ≤ (view c.seat.inside.pass).right = rw (ap (λ (t : SeatState). t.right) c.seat.view_is) c.requires.right in (takes _ _ some_right, learns _ _)
