use Rattle.std.proofs.Common.{◌≡◌, ◌++◌, ◌≤◌, [], drop, length, take}
use Rattle.std.specs.Prelude.{count_by}
use Rattle.std.specs.Vec.{vec_len, vec_capacity}
use Rattle.mq_core.specs.Kinds.Join.{opens_from}
use Rattle.mq_join.proofs.Counting.{is_closed}
use Rattle.mq_join.proofs.visits.founds_by.Given as goal

abbrev pub invariant-loop-at : goal.invariant-loop-at
invariant-loop-at l = record {
  so_far : l.founds.items ++ opens_from l.at (take l.at l.matches) (drop l.at l.matches) ≡ opens_from 0 [] l.matches;
  closed : l.closed ≡ count_by (is_closed l.at) l.matches;
  few : l.closed ≤ l.at;
  len : vec_len l.founds ≡ l.at;
  room : length l.closings ≤ vec_capacity l.founds;
}
