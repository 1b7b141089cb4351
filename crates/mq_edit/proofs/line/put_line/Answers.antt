use Rattle.std.proofs.Common.{subst}
use Rattle.mq_outcome.specs.Lines.{PutsLine, over_line, past_line}
use Rattle.mq_edit.specs.Lines.{mpedit}
use Rattle.mq_edit.proofs.line.put_line.Goals as goal

pub returns-in-Over : goal.returns-in-Over
returns-in-Over g c =
    rw c.in-Over.is
    (subst (λ back. PutsLine g.E.Sink.taken g.E.Sink.sure g.E.Sink.faults c.args.err.now c.put_over_line.new.err (over_line mpedit c.args.name.now c.in-Over.fault back)) c.which_run.ensures c.put_over_line.ensures)

pub returns-in-Past : goal.returns-in-Past
returns-in-Past g c =
    rw c.in-Past.is
    (subst (λ back. PutsLine g.E.Sink.taken g.E.Sink.sure g.E.Sink.faults c.args.err.now c.put_past_line.new.err (past_line mpedit c.args.name.now c.in-Past.fault back)) c.which_run-in-Past.ensures c.put_past_line.ensures)

pub returns-in-WriteFault : goal.returns-in-WriteFault
returns-in-WriteFault g c = rw c.in-WriteFault.is c.put_text-in-WriteFault.ensures

pub returns-in-Memory : goal.returns-in-Memory
returns-in-Memory g c = rw c.in-Memory.is c.put_text-in-Memory.ensures
