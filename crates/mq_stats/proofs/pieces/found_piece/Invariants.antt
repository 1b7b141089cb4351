use Rattle.std.proofs.Common.{◌≡◌, ℕ, ◌+◌, ◌≤◌, ◌++◌, List, drop, length, take, Some}
use Rattle.std.specs.Prelude.{slice_get}
use Rattle.std.specs.Vec.{vec_len, vec_capacity}
use Rattle.mq_core.specs.OnceOut.{founds_from, founds_of}
use Rattle.mq_core.specs.declared.model.Fate.{Fate}
use Rattle.mq_stats.proofs.Passing.{up_to}
use Rattle.mq_stats.specs.Ahead.{IsAhead}
use Rattle.mq_stats.proofs.pieces.found_piece.Given as goal

-- what the visits so far found, with what is left, is all from the first on; and so many had left and come by then
abbrev pub invariant-loop-at : goal.invariant-loop-at
invariant-loop-at l = record {
  so_far : (fate : List Fate) → IsAhead l.arrive fate l.ahead → l.found.items ++ founds_from (take l.at fate) (drop l.at l.arrive) (drop l.at fate) ≡ drop l.first (founds_of l.arrive fate);
  left : (time : ℕ) → slice_get l.arrive l.at ≡ Some time → l.left ≤ up_to time l.ahead.leaving;
  came : (time : ℕ) → slice_get l.arrive l.at ≡ Some time → l.came ≤ up_to time l.arrive;
  many : length l.found.items + l.first ≡ l.at;
  len : vec_len l.found + l.first ≡ l.at;
  room : l.end ≤ vec_capacity l.found + l.first;
}
