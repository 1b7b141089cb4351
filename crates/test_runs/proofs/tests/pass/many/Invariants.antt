use Rattle.std.proofs.Common.{◌≡◌, ◌^◌, ◌≤◌, All, length}
use Rattle.test_runs.proofs.tests.pass.many.Given as goal

abbrev pub invariant-fills : goal.invariant-fills
invariant-fills l = record {
  times : length l.time.items ≡ l.at;
  each : length l.demands.items ≡ l.at;
  early : All (λ t. t ≤ 2 ^ 60) l.time.items;
  small : All (λ d. d ≤ 2 ^ 36) l.demands.items;
}
