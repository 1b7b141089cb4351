use Rattle.std.proofs.Common.{◌≡◌}
use Rattle.test_edits.proofs.tests.library.all_go_so.Given as goal

-- the run is of the same plan
abbrev pub invariant-loop-step : goal.invariant-loop-step
invariant-loop-step g l = l.kept.plan ≡ l.plan
