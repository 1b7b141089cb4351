use Rattle.std.proofs.Common.{◌≡◌, []}
use Rattle.std.specs.List.{range_with_len}
use Rattle.crossbeam_queue.specs.Passes.{view, IsPassOf, ruled_capacity}
use Rattle.mq_sweep.specs.QueueRule.{tally}
use Rattle.mq_sweep.proofs.queue.NumberQueue.filled.Given as goal

abbrev pub invariant-puts : goal.invariant-puts
invariant-puts g l = record {
  of : IsPassOf l.queue l.pass;
  put : view l.pass ≡ tally 64 (range_with_len 0 l.number) [];
  room : ruled_capacity l.queue ≡ l.count;
}
