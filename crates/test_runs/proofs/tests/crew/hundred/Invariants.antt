use Rattle.std.proofs.Common.{◌≡◌, length}
use Rattle.test_runs.proofs.tests.crew.hundred.Given as goal

abbrev pub invariant-fills : goal.invariant-fills
invariant-fills l = length l.squares.items ≡ l.b
