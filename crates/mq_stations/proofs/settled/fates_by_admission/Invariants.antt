use Rattle.std.proofs.Common.{◌≡◌, ◌≤◌, ◌++◌, drop, length}
use Rattle.std.specs.Vec.{vec_len, vec_capacity}
use Rattle.mq_rounds.specs.Rounds.{fates_by}
use Rattle.mq_stations.proofs.settled.fates_by_admission.Given as goal

-- the fates so far and those of what is left are all, for which there is room
abbrev pub invariant-loop-at : goal.invariant-loop-at
invariant-loop-at l = record {
  so_far : l.fates.items ++ fates_by (drop l.at l.admitted) (drop l.next l.departs) ≡ fates_by l.admitted l.departs;
  len : vec_len l.fates ≡ l.at;
  room : length l.admitted ≤ vec_capacity l.fates;
}
