use Rattle.std.proofs.Common.{◌≡◌}
use Rattle.test_kept.proofs.tests.networks.stays_through.Given as goal

-- the run is of the same plan
abbrev pub invariant-loop : goal.invariant-loop
invariant-loop g l = l.kept.plan ≡ l.plan
