use Rattle.std.proofs.Common.{◌≡◌, ◌+◌, ◌-◌, ◌++◌}
use Rattle.std.specs.Vec.{vec_len, vec_capacity}
use Rattle.mq_scan.specs.Folds.{carries_after, fold_to}
use Rattle.mq_scan.proofs.passes.push_carries.Given as goal

-- the jobs so far have acted
abbrev pub invariant-acts : goal.invariant-acts
invariant-acts g l = record {
  carry : l.carry ≡ fold_to g.P.Step.acted (g.P.Step.start l.step) (g.P.Step.part l.step) l.at;
  items : l.after.items ≡ l.fn.after.items ++ carries_after g.P.Step.acted (g.P.Step.start l.step) (g.P.Step.part l.step) l.fn.from (l.at - l.fn.from);
  len : vec_len l.after ≡ vec_len l.fn.after + (l.at - l.fn.from);
  room : vec_capacity l.after ≡ vec_capacity l.fn.after;
}
