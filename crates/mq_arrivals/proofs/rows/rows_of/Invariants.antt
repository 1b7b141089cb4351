use Rattle.std.proofs.Common.{◌≡◌, ◌+◌, ◌≤◌, ◌==◌, ◌++◌, drop}
use Rattle.std.specs.List.{zip}
use Rattle.std.specs.Prelude.{count_by}
use Rattle.std.specs.Vec.{vec_len, vec_capacity}
use Rattle.mq_core.specs.Sequences.{rows_at}
use Rattle.mq_arrivals.proofs.rows.rows_of.Given as goal

-- the rows so far and those of what is left are the rows, for all of which there is room
abbrev pub invariant-loop-job : goal.invariant-loop-job
invariant-loop-job l = record {
  even : vec_len l.jobs ≡ vec_len l.times;
  items : zip l.times.items l.jobs.items ++ rows_at l.node l.job (drop l.job l.source) (drop l.job l.time) ≡ rows_at l.node l.from (drop l.from l.source) (drop l.from l.time);
  room : vec_len l.jobs + count_by (λ other. other == l.node) (drop l.job l.source) ≤ vec_capacity l.jobs;
  space : vec_capacity l.jobs ≤ vec_capacity l.times;
}
