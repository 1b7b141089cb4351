use Rattle.std.proofs.Common.{◌≡◌, ◌-◌, length}
use Rattle.mq_crew.proofs.Working.{IsWorking}
use Rattle.mq_pass.specs.Passing.{IsOwn, IsPassed}
use Rattle.mq_pass.proofs.crew.pass_drawn.Given as goal

abbrev pub invariant-draws : goal.invariant-draws
invariant-draws g l = record {
  table : l.seat.table ≡ l.fn.seat.table;
  right : l.seat.right ≡ l.fn.seat.right;
  own : IsOwn l.jobs.step.arrive.now l.jobs.step.demands.now l.jobs.blocks.block l.seat;
  works : IsWorking (IsPassed l.jobs.step.arrive.now l.jobs.step.demands.now l.jobs.blocks.block l.seat.puts l.seat.looks) l.jobs.blocks.blocks l.seat.draws l.made.items;
}

abbrev pub decreases-draws : goal.decreases-draws
decreases-draws g l = l.jobs.blocks.blocks - length l.seat.draws
