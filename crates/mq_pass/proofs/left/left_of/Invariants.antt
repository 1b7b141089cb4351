use Rattle.std.proofs.Common.{◌≡◌, ◌*◌, ◌++◌, All, drop, length, map, min}
use Rattle.mq_pass.specs.Blocks.{carry_at}
use Rattle.mq_pass.specs.Passing.{IsLeft, left_from}
use Rattle.mq_pass.proofs.left.left_of.Given as goal

-- those of the blocks so far and those of what is left are all; the carry is the one before the next block
abbrev pub invariant-folds : goal.invariant-folds
invariant-folds l = record {
  numbers : map (λ q. q.block) l.left.items ++ left_from l.b (drop l.b l.passed) ≡ left_from 0 l.passed;
  left : All (IsLeft l.jobs.step.arrive.now l.jobs.step.demands.now l.jobs.blocks.block l.jobs.blocks.blocks) l.left.items;
  carry : l.carry ≡ carry_at l.jobs.step.arrive.now l.jobs.step.demands.now (min (l.b * l.jobs.blocks.block) (length l.jobs.step.arrive.now));
}
