use Rattle.std.proofs.Common.{ℕ, ◌≡◌, ◌+◌, drop, get_or, length, min}
use Rattle.std.specs.Prelude.{◌==◌, count_by}
use Rattle.mq_stats.proofs.wait_counts.count_waits.Given as goal

-- what is counted so far, with the waits that are left, is all
abbrev pub invariant-loop-at : goal.invariant-loop-at
invariant-loop-at l = record {
  room : length l.table ≡ l.last + 1;
  so_far : (wait : ℕ) → get_or l.table wait 0 + count_by (λ w. min w l.last == wait) (drop l.at l.waits) ≡ count_by (λ w. min w l.last == wait) l.waits;
}
