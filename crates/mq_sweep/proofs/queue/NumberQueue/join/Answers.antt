use Rattle.std.proofs.Common.{◌≤◌, ap}
use Rattle.crossbeam_queue.specs.Passes.{view}
use Rattle.mq_sweep.specs.QueueRule.{SeatState}
use Rattle.mq_sweep.proofs.QueueRule.{merges}
use Rattle.mq_sweep.proofs.queue.NumberQueue.join.Goals as goal

pub absorb-requires-clause-rule : goal.absorb-requires-clause-rule
absorb-requires-clause-rule c = let some_right : 1 ≤ (view c.seat.inside.pass).right = rw (ap (λ (t : SeatState). t.right) c.seat.view_is) c.requires.right in merges _ _ _ _ some_right
