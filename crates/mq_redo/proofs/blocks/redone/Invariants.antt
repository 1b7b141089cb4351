use Rattle.std.proofs.Common.{◌≡◌, ◌+◌, ◌≤◌, length}
use Rattle.mq_scan.specs.Folds.{fold_to}
use Rattle.mq_scan.proofs.lemmas.Blocks.{end_of}
use Rattle.mq_redo.specs.Doing.{AreDone}
use Rattle.mq_redo.proofs.blocks.redone.Given as goal

-- the blocks so far are done, with a step for each behind those that were kept
abbrev pub invariant-parts : goal.invariant-parts
invariant-parts g l = record {
  begun : length l.fn.kept.carries.items ≤ l.b;
  within : l.b ≤ l.blocks.blocks;
  carry : l.carry ≡ fold_to g.P.Step.acted l.fn.before (g.P.Step.part l.step) (end_of l.blocks l.b);
  done : AreDone (g.P.Timed.time_of l.step) g.P.Step.acted l.fn.before (g.P.Step.part l.step) l.blocks l.b l.times.items l.carries.items;
  steps : l.fn.steps ≤ l.steps;
  spent : l.steps + length l.fn.kept.carries.items ≡ l.fn.steps + l.b;
}
