use Rattle.std.proofs.Common.{◌≡◌, ◌+◌, ◌*◌, ◌^◌, ◌≤◌, drop, max}
use Rattle.std.specs.Prelude.{fold, sum}
use Rattle.mq_core.specs.Sequences.{sequence_services, sequence_waits}
use Rattle.mq_stats.proofs.waits.sums_of.Given as goal

-- what is added and greatest so far, with what is left, is all
abbrev pub invariant-loop-at : goal.invariant-loop-at
invariant-loop-at l = record {
  wait : fold (λ a y. a + y) l.wait (sequence_waits l.rows l.kind (drop l.at l.job) (drop l.at l.arrive) (drop l.at l.fate)) ≡ sum (sequence_waits l.rows l.kind l.job l.arrive l.fate);
  longest : fold max l.longest (sequence_waits l.rows l.kind (drop l.at l.job) (drop l.at l.arrive) (drop l.at l.fate)) ≡ fold max 0 (sequence_waits l.rows l.kind l.job l.arrive l.fate);
  busy : fold (λ a y. a + y) l.busy (sequence_services l.rows l.kind (drop l.at l.job) (drop l.at l.fate)) ≡ sum (sequence_services l.rows l.kind l.job l.fate);
  small : l.wait ≤ l.at * 2 ^ 64;
  small_busy : l.busy ≤ l.at * 2 ^ 64;
}
