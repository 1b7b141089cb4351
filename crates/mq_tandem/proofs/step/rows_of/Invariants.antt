use Rattle.std.proofs.Common.{◌≡◌, ◌+◌, drop, sum}
use Rattle.mq_tandem.specs.Rows.{zero_row}
use Rattle.mq_tandem.proofs.step.rows_of.Given as goal

-- the rows of the stages so far and those of what is left are all
abbrev pub invariant-loop-stage : goal.invariant-loop-stage
invariant-loop-stage l = l.rows + sum (drop l.stage l.places) ≡ zero_row l.places + 1
