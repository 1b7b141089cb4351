use Rattle.std.proofs.Common.{◌≡◌, ◌≤◌, ◌++◌, drop, length}
use Rattle.std.specs.Vec.{vec_capacity}
use Rattle.mq_trunk.specs.Parts.{of_admitted}
use Rattle.mq_trunk.proofs.settling.admitted_jobs.Given as goal

-- the jobs so far and those of what is left are all, for which there is room
abbrev pub invariant-loop-at : goal.invariant-loop-at
invariant-loop-at l = record {
  so_far : l.served.items ++ of_admitted (drop l.at l.admitted) (drop l.at l.jobs) ≡ of_admitted l.admitted l.jobs;
  room : length (of_admitted l.admitted l.jobs) ≤ vec_capacity l.served;
}
