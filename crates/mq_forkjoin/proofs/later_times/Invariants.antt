use Rattle.std.proofs.Common.{◌≡◌, ◌≤◌, ◌++◌, drop, length}
use Rattle.std.specs.Vec.{vec_len, vec_capacity}
use Rattle.mq_core.specs.Recurrences.{later_of}
use Rattle.mq_forkjoin.proofs.later_times.Given as goal

-- the later times so far and those of what is left are all
abbrev pub invariant-loop-at : goal.invariant-loop-at
invariant-loop-at l = record {
  so_far : l.later.items ++ later_of (drop l.at l.one) (drop l.at l.other) ≡ later_of l.one l.other;
  len : vec_len l.later ≡ l.at;
  room : length l.one ≤ vec_capacity l.later;
}
