use Rattle.std.proofs.Common.{subst, sym}
use Rattle.mq_outside.specs.Reading.{ReadsNames}
use Rattle.mq_outside.proofs.lemmas.Writings.{writes_wider}
use Rattle.mq_top.specs.Ends.{takings, writing_of}
use Rattle.mq_top.proofs.Exits.{not_unread, told_text, trace_unwritten, writes_nothing}
use Rattle.mq_top.proofs.Told.{refused_ends}
use Rattle.mq_top.proofs.stages.run_trace.Goals as goal

pub returns-in-Ok-clause-reads : goal.returns-in-Ok-clause-reads
returns-in-Ok-clause-reads g c =
    subst (ReadsNames g.F.Files.told g.F.Files.is_sure g.F.Files.reads g.F.Files.faults c.args.files.now c.accept_trace.new.files _) (sym (not_unread c.report_run-outcome.result c.report_run-outcome.ensures.unread)) c.in-Ok.ensures.reads

pub returns-in-Ok-clause-writes : goal.returns-in-Ok-clause-writes
returns-in-Ok-clause-writes g c =
    writes_wider _ _ _ _ _ (writing_of c.report_run-outcome.result) _ _ (λ text is. told_text c.args.plan.now.net c.in-Ok.rows _ c.args.wanted text c.in-Ok.ensures.accepted is) c.report_run-outcome.ensures.writes

pub returns-in-Err-clause-ends : goal.returns-in-Err-clause-ends
returns-in-Err-clause-ends g c =
    refused_ends c.args.plan.now.net (g.F.Files.told c.args.files.now c.args.name.now) c.args.wanted c.in-Err.outcome (takings g.O.Sink.taken g.O.Sink.sure c.args.out.now c.args.out.now) c.in-Err.ensures.refused

pub returns-in-Err-clause-writes : goal.returns-in-Err-clause-writes
returns-in-Err-clause-writes g c = writes_nothing _ _ _ _ _ _ (trace_unwritten _ _ _ c.in-Err.ensures.refused)
