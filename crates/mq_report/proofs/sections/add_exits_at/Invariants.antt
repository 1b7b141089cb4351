use Rattle.std.proofs.Common.{◌++◌, ◌-◌}
use Rattle.mq_outside.proofs.lemmas.Gathers.{Gathers}
use Rattle.mq_core.specs.Sound.{outputs_in}
use Rattle.mq_core.specs.StandardTable.{run_of}
use Rattle.mq_report.specs.Text.{exit_lines}
use Rattle.mq_report.proofs.sections.add_exits_at.Given as goal

abbrev pub invariant-loop-output : goal.invariant-loop-output
invariant-loop-output g l =
    Gathers (g.O.Sink.taken l.initial.out) (g.O.Sink.taken l.out) (g.O.Sink.sure l.initial.out) (g.O.Sink.sure l.out)
    (g.O.Sink.faults l.initial.out) (g.O.Sink.faults l.out) (l.initial.pending ++ exit_lines l.plan.net.nodes l.rows l.node l.declared.name ((run_of l.plan l.rows).stations l.node) 0 (outputs_in l.declared.kind)) l.pending (exit_lines l.plan.net.nodes l.rows l.node l.declared.name ((run_of l.plan l.rows).stations l.node) l.output (l.output-end - l.output))
