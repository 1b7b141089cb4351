use Rattle.std.proofs.Common.{◌≡◌, take}
use Rattle.mq_core.specs.Kinds.ForkJoin.{branch_demands}
use Rattle.mq_asked.proofs.asked.branches_asked_of.Given as goal

-- the branches so far
abbrev pub invariant-loop-at : goal.invariant-loop-at
invariant-loop-at l = l.all ≡ branch_demands l.rows (take l.at l.branches) l.jobs
