use Rattle.std.proofs.Common.{◌≡◌, ℕ, ◌+◌, ◌*◌, ◌^◌, ◌<◌, ◌≤◌, ◌++◌, drop, get_or, length, max, take}
use Rattle.std.specs.Prelude.{fold, sum}
use Rattle.mq_core.specs.Results.{bare_time}
use Rattle.mq_core.specs.Sequences.{sequence_sojourns, sequence_waits}
use Rattle.mq_stats.specs.Percentiles.{departed_waits}
use Rattle.mq_stats.proofs.in_turn.put_departed.Given as goal

-- the waits so far, with those of the visits that are left, are all, and so are the sums and the greatest; behind them stands how long jobs stay that never wait
abbrev pub invariant-loop-at : goal.invariant-loop-at
invariant-loop-at l = record {
  room : length l.waits ≡ length l.waiting.job.now;
  so_far : take l.at l.waits ++ departed_waits l.waiting.rows.now l.waiting.kind.now (drop l.at l.waiting.job.now) (drop l.at l.waiting.arrive.now) (drop l.at l.waiting.fate.now) ≡ departed_waits l.waiting.rows.now l.waiting.kind.now l.waiting.job.now l.waiting.arrive.now l.waiting.fate.now;
  bare : (i : ℕ) → l.at ≤ i → i < length l.waiting.job.now → get_or l.waits i 0 ≡ bare_time l.waiting.rows.now l.waiting.kind.now (get_or l.waiting.job.now i 0);
  stay : (span : ℕ) → fold (λ a y. a + y) l.stay (sequence_sojourns span (drop l.at l.waiting.arrive.now) (drop l.at l.waiting.fate.now)) ≡ sum (sequence_sojourns span l.waiting.arrive.now l.waiting.fate.now);
  wait : fold (λ a y. a + y) l.wait (sequence_waits l.waiting.rows.now l.waiting.kind.now (drop l.at l.waiting.job.now) (drop l.at l.waiting.arrive.now) (drop l.at l.waiting.fate.now)) ≡ sum (sequence_waits l.waiting.rows.now l.waiting.kind.now l.waiting.job.now l.waiting.arrive.now l.waiting.fate.now);
  longest : fold max l.longest (sequence_waits l.waiting.rows.now l.waiting.kind.now (drop l.at l.waiting.job.now) (drop l.at l.waiting.arrive.now) (drop l.at l.waiting.fate.now)) ≡ fold max 0 (sequence_waits l.waiting.rows.now l.waiting.kind.now l.waiting.job.now l.waiting.arrive.now l.waiting.fate.now);
  small : l.wait ≤ l.at * 2 ^ 64;
  small_stay : l.stay ≤ l.at * 2 ^ 64;
}
