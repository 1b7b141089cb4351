use Rattle.std.proofs.Common.{◌++◌, drop}
use Rattle.mq_outside.proofs.lemmas.Gathers.{Gathers}
use Rattle.mq_core.specs.StandardTable.{run_of}
use Rattle.mq_report.specs.Text.{nodes_text}
use Rattle.mq_report.proofs.sections.add_nodes.Given as goal

abbrev pub invariant-loop-rank : goal.invariant-loop-rank
invariant-loop-rank g l =
    Gathers (g.O.Sink.taken l.initial.out) (g.O.Sink.taken l.out) (g.O.Sink.sure l.initial.out) (g.O.Sink.sure l.out)
    (g.O.Sink.faults l.initial.out) (g.O.Sink.faults l.out) (l.initial.pending ++ nodes_text l.form l.plan.net l.rows (run_of l.plan l.rows) l.plan.order) l.pending (nodes_text l.form l.plan.net l.rows (run_of l.plan l.rows) (drop l.rank l.plan.order))
