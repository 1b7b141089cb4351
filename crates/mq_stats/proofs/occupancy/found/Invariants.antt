use Rattle.std.proofs.Common.{◌≡◌, ℕ, ◌≤◌, ◌++◌, drop, take, count_by, length, Some}
use Rattle.std.specs.Prelude.{slice_get}
use Rattle.std.specs.Vec.{vec_len, vec_capacity}
use Rattle.mq_core.specs.OnceOut.{founds_from, founds_of}
use Rattle.mq_stats.specs.Departures.{is_gone, stays}
use Rattle.mq_stats.proofs.occupancy.found.Given as goal

-- what the visits so far found, with what is left, is all; and of the earlier ones so many stay, and so many are gone
abbrev pub invariant-loop-at : goal.invariant-loop-at
invariant-loop-at l = record {
  so_far : l.found.items ++ founds_from (take l.at l.fate) (drop l.at l.arrive) (drop l.at l.fate) ≡ founds_of l.arrive l.fate;
  stayed : l.stayed ≡ count_by stays (take l.at l.fate);
  gone : (time : ℕ) → slice_get l.arrive l.at ≡ Some time → l.gone ≤ count_by (is_gone time l.at) l.departures.items;
  len : vec_len l.found ≡ l.at;
  room : length l.arrive ≤ vec_capacity l.found;
}
