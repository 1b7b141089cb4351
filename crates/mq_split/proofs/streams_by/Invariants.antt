use Rattle.std.proofs.Common.{◌≡◌, ◌<◌, ℕ, length, Some}
use Rattle.std.specs.Prelude.{slice_get}
use Rattle.mq_split.specs.Outs.{picked_stream}
use Rattle.mq_split.proofs.streams_by.Given as goal

abbrev pub invariant-loop-out : goal.invariant-loop-out
invariant-loop-out l = record {
  count : length l.streams ≡ l.out;
  parts : (k : ℕ) → k < l.out → slice_get l.streams k ≡ Some (picked_stream l.outs (record { job = l.jobs; time = l.times }) k);
}
