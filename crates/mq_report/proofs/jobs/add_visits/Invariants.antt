use Rattle.std.proofs.Common.{◌++◌, drop}
use Rattle.mq_outside.proofs.lemmas.Gathers.{Gathers}
use Rattle.mq_report.specs.Sequences.{sequence_lines}
use Rattle.mq_report.proofs.jobs.add_visits.Given as goal

abbrev pub invariant-loop-at : goal.invariant-loop-at
invariant-loop-at g l =
    Gathers (g.O.Sink.taken l.initial.out) (g.O.Sink.taken l.out) (g.O.Sink.sure l.initial.out) (g.O.Sink.sure l.out)
    (g.O.Sink.faults l.initial.out) (g.O.Sink.faults l.out) (l.initial.pending ++ sequence_lines l.rows l.name l.kind l.visits.job l.visits.arrive l.visits.fate) l.pending (sequence_lines l.rows l.name l.kind (drop l.at l.visits.job) (drop l.at l.visits.arrive) (drop l.at l.visits.fate))
