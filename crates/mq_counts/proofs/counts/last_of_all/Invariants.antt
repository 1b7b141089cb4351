use Rattle.std.proofs.Common.{◌≡◌, drop, max}
use Rattle.std.specs.Prelude.{fold, map}
use Rattle.mq_core.specs.Sequences.{greatest_time, visits_by_node}
use Rattle.mq_core.specs.StandardTable.{run_of}
use Rattle.mq_counts.proofs.counts.last_of_all.Given as goal

-- the greatest time so far, with those at the nodes that are left, is the clock
abbrev pub invariant-loop-node : goal.invariant-loop-node
invariant-loop-node l = fold max l.span (map greatest_time (visits_by_node (run_of l.plan l.rows) l.node (drop l.node l.plan.net.nodes))) ≡ (run_of l.plan l.rows).clock
