use Rattle.std.proofs.Common.{◌≡◌, ◌+◌, ◌≤◌, ◌==◌, drop}
use Rattle.std.specs.Prelude.{count_by}
use Rattle.mq_arrivals.proofs.rows.count_of.Given as goal

-- those counted so far and those among what is left are all
abbrev pub invariant-loop-at : goal.invariant-loop-at
invariant-loop-at l = record {
  so_far : l.count + count_by (λ other. other == l.node) (drop l.at l.source) ≡ count_by (λ other. other == l.node) (drop l.from l.source);
  few : l.count ≤ l.at;
}
