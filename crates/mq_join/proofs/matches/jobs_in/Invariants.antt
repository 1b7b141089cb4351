use Rattle.std.proofs.Common.{◌≡◌, ◌<◌, ◌≤◌, ◌^◌, ℕ, Some}
use Rattle.std.specs.Prelude.{slice_get}
use Rattle.mq_join.proofs.matches.jobs_in.Given as goal

abbrev pub invariant-loop-at : goal.invariant-loop-at
invariant-loop-at l = record {
  before : (index job : ℕ) → index < l.at → slice_get l.jobs index ≡ Some job → job < l.count;
  few : l.count ≤ 2 ^ 32;
}
