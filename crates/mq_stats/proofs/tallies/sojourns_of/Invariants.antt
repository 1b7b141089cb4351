use Rattle.std.proofs.Common.{◌≡◌, ◌+◌, ◌*◌, ◌^◌, ◌≤◌, drop}
use Rattle.std.specs.Prelude.{fold, sum}
use Rattle.mq_core.specs.Sequences.{sequence_sojourns}
use Rattle.mq_stats.proofs.tallies.sojourns_of.Given as goal

-- what is added so far, with what is left, is all
abbrev pub invariant-loop-at : goal.invariant-loop-at
invariant-loop-at l = record {
  sum : fold (λ a y. a + y) l.area (sequence_sojourns l.span (drop l.at l.arrive) (drop l.at l.fate)) ≡ sum (sequence_sojourns l.span l.arrive l.fate);
  small : l.area ≤ l.at * 2 ^ 64;
}
