use Rattle.std.proofs.Common.{◌≡◌, ◌+◌, ◌*◌, ◌^◌, ◌≤◌, drop}
use Rattle.std.specs.Prelude.{fold, sum}
use Rattle.mq_core.specs.Sequences.{stream_sojourns}
use Rattle.mq_stats.proofs.exits.sojourns_of.Given as goal

-- what is added so far, with what is left, is all
abbrev pub invariant-loop-at : goal.invariant-loop-at
invariant-loop-at l = record {
  so_far : fold (λ a y. a + y) l.sojourn (stream_sojourns l.rows (drop l.at l.job) (drop l.at l.time)) ≡ sum (stream_sojourns l.rows l.job l.time);
  small : l.sojourn ≤ l.at * 2 ^ 64;
}
