use Rattle.std.proofs.Common.{◌≡◌, ◌+◌, ◌-◌, ◌≤◌}
use Rattle.mq_scan.specs.Folds.{carries_after, fold_to}
use Rattle.mq_redo.proofs.blocks.through_block.Given as goal

-- the jobs so far have acted
abbrev pub invariant-acts : goal.invariant-acts
invariant-acts g l = record {
  begun : l.from ≤ l.at;
  within : l.at ≤ l.to;
  carry : l.carry ≡ fold_to g.P.Step.acted l.fn.carry (λ k. g.P.Step.part l.step (l.from + k)) (l.at - l.from);
  after : l.after.items ≡ carries_after g.P.Step.acted l.fn.carry (λ k. g.P.Step.part l.step (l.from + k)) 0 (l.at - l.from);
}
