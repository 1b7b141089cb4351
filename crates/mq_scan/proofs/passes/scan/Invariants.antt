use Rattle.std.proofs.Common.{◌≡◌, ◌≤◌}
use Rattle.std.specs.Vec.{vec_len, vec_capacity}
use Rattle.mq_scan.specs.Folds.{carries_after, fold_to}
use Rattle.mq_scan.proofs.lemmas.Blocks.{end_of}
use Rattle.mq_scan.proofs.passes.scan.Given as goal

-- the blocks so far are done
abbrev pub invariant-parts : goal.invariant-parts
invariant-parts g l = record {
  carry : l.carry ≡ fold_to g.P.Step.acted (g.P.Step.start l.step) (g.P.Step.part l.step) (end_of l.blocks l.b);
  items : l.after.items ≡ carries_after g.P.Step.acted (g.P.Step.start l.step) (g.P.Step.part l.step) 0 (end_of l.blocks l.b);
  len : vec_len l.after ≡ end_of l.blocks l.b;
  room : l.blocks.n ≤ vec_capacity l.after;
}
