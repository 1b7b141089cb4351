use Rattle.std.proofs.Common.{◌≤◌, ap}
use Rattle.crossbeam_queue.specs.Passes.{view}
use Rattle.mq_sweep.specs.QueueRule.{SeatState}
use Rattle.mq_sweep.proofs.QueueRule.{forks}
use Rattle.mq_sweep.proofs.queue.NumberQueue.split.Goals as goal

pub another-pass-requires-clause-rule : goal.another-pass-requires-clause-rule
another-pass-requires-clause-rule c = let two : 2 ≤ (view c.seat.inside.pass).right = rw (ap (λ (t : SeatState). t.right) c.seat.view_is) c.requires.two in forks _ _ two
