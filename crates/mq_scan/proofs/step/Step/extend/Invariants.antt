use Rattle.std.proofs.Common.{◌≡◌, ◌-◌}
use Rattle.mq_scan.specs.Folds.{extended}
use Rattle.mq_scan.proofs.step.Step.extend.Given as goal

-- the jobs so far are added
abbrev pub invariant-joins : goal.invariant-joins
invariant-joins g l = l.sum ≡ extended g.Self.Step.joined (g.Self.Step.part l.self) l.fn.sum l.fn.from (l.at - l.fn.from)
