use Rattle.std.proofs.Common.{◌≡◌, ℕ, ◌≤◌, ◌++◌, drop, length, take, Some}
use Rattle.std.specs.Prelude.{slice_get}
use Rattle.std.specs.Vec.{vec_len, vec_capacity}
use Rattle.mq_core.specs.OnceOut.{founds_from, founds_of}
use Rattle.mq_stats.specs.Departures.{departures_rise}
use Rattle.mq_stats.proofs.InOrder.{AreGoing}
use Rattle.mq_stats.proofs.Passing.{up_to}
use Rattle.mq_stats.proofs.in_order.found_in_order.Given as goal

-- what the visits so far found, with what is left, is all; what is left rises from the latest departure so far exactly where all rises; and so many of
-- the departures so far are passed
abbrev pub invariant-loop-at : goal.invariant-loop-at
invariant-loop-at l = record {
  so_far : l.found.items ++ founds_from (take l.at l.fate) (drop l.at l.arrive) (drop l.at l.fate) ≡ founds_of l.arrive l.fate;
  rises : departures_rise l.latest (drop l.at l.fate) ≡ departures_rise 0 l.fate;
  going : AreGoing (take l.at l.fate) l.latest l.departs.items;
  left : (time : ℕ) → slice_get l.arrive l.at ≡ Some time → l.left ≤ up_to time l.departs.items;
  len : vec_len l.found ≡ l.at;
  room : length l.arrive ≤ vec_capacity l.found;
  many : vec_len l.departs ≤ l.at;
  wide : length l.arrive ≤ vec_capacity l.departs;
}
