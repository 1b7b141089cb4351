use Rattle.std.proofs.Common.{◌∙◌, Some, ap, sym, true≢false}
use Rattle.mq_outside.specs.Reading.{is_unread}
use Rattle.mq_outside.proofs.lemmas.Writings.{writes_wider}
use Rattle.mq_top.specs.Ends.{reading_of, takings, writing_of}
use Rattle.mq_top.proofs.Exits.{answer_text, trace_unwritten, writes_nothing}
use Rattle.mq_top.proofs.Told.{refused_ends}
use Rattle.mq_top.proofs.stages.run_text.Goals as goal

pub returns-in-Ok-clause-writes : goal.returns-in-Ok-clause-writes
returns-in-Ok-clause-writes g c =
    writes_wider _ _ _ _ _ (writing_of c.report_run-outcome.result) _ _
    (λ text is. answer_text c.args.plan.now.net c.in-Ok.rows c.args.trace.now c.args.wanted text c.in-Ok.ensures.accepted.0 c.in-Ok.ensures.accepted.1 is) c.report_run-outcome.ensures.writes

pub returns-in-Err-clause-ends : goal.returns-in-Err-clause-ends
returns-in-Err-clause-ends g c =
    refused_ends c.args.plan.now.net (Some c.args.trace.now) c.args.wanted c.in-Err.outcome (takings g.O.Sink.taken g.O.Sink.sure c.args.out.now c.args.out.now) c.in-Err.ensures.refused

pub returns-in-Err-clause-unread : goal.returns-in-Err-clause-unread
returns-in-Err-clause-unread g c e = true≢false (sym (ap (λ o. is_unread (reading_of o)) e) ∙ c.in-Err.ensures.unread)

pub returns-in-Err-clause-writes : goal.returns-in-Err-clause-writes
returns-in-Err-clause-writes g c = writes_nothing _ _ _ _ _ _ (trace_unwritten _ _ _ c.in-Err.ensures.refused)
