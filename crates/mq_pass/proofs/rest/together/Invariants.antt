use Rattle.std.proofs.Common.{◌≡◌, ◌≤◌, ◌*◌, ◌++◌, drop, length, min}
use Rattle.mq_chain.specs.Words.{value_of}
use Rattle.mq_core.specs.Recurrences.{lindley}
use Rattle.mq_pass.specs.Blocks.{carry_at}
use Rattle.mq_pass.specs.Passing.{left_from}
use Rattle.mq_pass.proofs.rest.together.Given as goal

-- the departures so far and those of the blocks to come are all; so are the numbers of the blocks that were left
abbrev pub invariant-puts : goal.invariant-puts
invariant-puts l = record {
  so_far : l.all.items ++ lindley (value_of (carry_at l.jobs.step.arrive.now l.jobs.step.demands.now (min (l.b * l.jobs.blocks.block) (length l.jobs.step.arrive.now)))) (drop (min (l.b * l.jobs.blocks.block) (length l.jobs.step.arrive.now)) l.jobs.step.arrive.now) (drop (min (l.b * l.jobs.blocks.block) (length l.jobs.step.arrive.now)) l.jobs.step.demands.now) ≡ lindley 0 l.jobs.step.arrive.now l.jobs.step.demands.now;
  numbers : drop l.next (left_from 0 l.passed) ≡ left_from l.b (drop l.b l.passed);
  behind : l.next ≤ l.b;
}
