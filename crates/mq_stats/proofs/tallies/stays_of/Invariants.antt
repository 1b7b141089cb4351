use Rattle.std.proofs.Common.{◌≡◌, ◌+◌, ◌*◌, ◌^◌, ◌≤◌, drop}
use Rattle.std.specs.Prelude.{fold, sum, count_by}
use Rattle.mq_core.specs.Sequences.{sequence_sojourns}
use Rattle.mq_core.specs.Results.{is_held, is_lost}
use Rattle.mq_stats.proofs.tallies.stays_of.Given as goal

-- what is counted and added so far, with what is left, is all
abbrev pub invariant-loop-at : goal.invariant-loop-at
invariant-loop-at l = record {
  lost : l.lost + count_by is_lost (drop l.at l.fate) ≡ count_by is_lost l.fate;
  held : l.held + count_by is_held (drop l.at l.fate) ≡ count_by is_held l.fate;
  stay : fold (λ a y. a + y) l.stay (sequence_sojourns 0 (drop l.at l.arrive) (drop l.at l.fate)) ≡ sum (sequence_sojourns 0 l.arrive l.fate);
  few : l.lost ≤ l.at;
  few_held : l.held ≤ l.at;
  small : l.stay ≤ l.at * 2 ^ 64;
}
