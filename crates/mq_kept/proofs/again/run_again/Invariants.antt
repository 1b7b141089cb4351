use Rattle.std.proofs.Common.{◌≡◌, ◌+◌, ◌≤◌, take}
use Rattle.std.specs.Prelude.{sum_by}
use Rattle.mq_kept.specs.NodeRuns.{earlier_rows}
use Rattle.mq_kept.proofs.WorkedTo.{IsWorkedTo, worked_at_node}
use Rattle.mq_kept.proofs.again.run_again.Given as goal

abbrev pub invariant-loop-rank : goal.invariant-loop-rank
invariant-loop-rank g l = record {
  worked : IsWorkedTo l.plan l.rows l.block (earlier_rows l.rows l.earlier) l.fn.nodes l.worked l.rank;
  steps : l.initial.steps ≤ l.steps;
  spent : l.steps ≡ l.initial.steps + sum_by (worked_at_node l.plan l.rows l.block (earlier_rows l.rows l.earlier)) (take l.rank l.plan.order);
}
