use Rattle.std.proofs.Common.{◌≡◌, ◌≤◌, ◌∙◌, Bool, ap, length, refl, arith, subst, sym}
use Rattle.std.specs.Io.KnownBytes.{append_known}
use Rattle.mq_base.proofs.lemmas.Lists.{take-all}
use Rattle.mq_outside.specs.Outside.{TakesFirst}
use Rattle.mq_outside.proofs.lemmas.Writings.{writes_whole}
use Rattle.mq_report.specs.Text.{report_in}
use Rattle.mq_top.proofs.stages.report_told.Goals as goal

pub returns-in-Ok-clause-ends : goal.returns-in-Ok-clause-ends
returns-in-Ok-clause-ends g c =
    let text = λ (jobs : Bool). report_in c.args.plan.now.net c.args.rows.now c.args.wanted.form jobs in
    let took = subst (λ (jobs : Bool). TakesFirst (g.O.Sink.taken c.args.out.now) (g.O.Sink.taken c.report.new.out) (g.O.Sink.sure c.args.out.now) (g.O.Sink.sure c.report.new.out) (text jobs) (length (text jobs))) c.requires.asked c.in-Ok.ensures.ok in
    took.gained ∙ ap (append_known (g.O.Sink.taken c.args.out.now)) (take-all (text c.args.wanted.jobs) _ (omega arith))

pub returns-in-Ok-clause-writes : goal.returns-in-Ok-clause-writes
returns-in-Ok-clause-writes g c =
    let text = λ (jobs : Bool). report_in c.args.plan.now.net c.args.rows.now c.args.wanted.form jobs in
    let took = subst (λ (jobs : Bool). TakesFirst (g.O.Sink.taken c.args.out.now) (g.O.Sink.taken c.report.new.out) (g.O.Sink.sure c.args.out.now) (g.O.Sink.sure c.report.new.out) (text jobs) (length (text jobs))) c.requires.asked c.in-Ok.ensures.ok in
    writes_whole g.O.Sink.taken g.O.Sink.sure g.O.Sink.faults c.args.out.now c.report.new.out (text c.args.wanted.jobs) _ refl took c.in-Ok.ensures.quiet

pub returns-in-Err-clause-ends : goal.returns-in-Err-clause-ends
returns-in-Err-clause-ends g c = rw (sym c.requires.asked) c.in-Err.ensures.err

pub returns-in-Err-clause-writes : goal.returns-in-Err-clause-writes
returns-in-Err-clause-writes g c = record {
  text = report_in c.args.plan.now.net c.args.rows.now c.args.wanted.form c.args.wanted.jobs;
  is_text = refl;
  part = rw (sym c.requires.asked) c.in-Err.ensures.err;
  later = c.report.ensures.later;
  rose = c.in-Err.ensures.rose;
  calm = subst (λ (jobs : Bool). length (report_in c.args.plan.now.net c.args.rows.now c.args.wanted.form jobs) ≤ g.O.Sink.sure c.args.out.now → g.O.Sink.faults c.report.new.out ≡ g.O.Sink.faults c.args.out.now) c.requires.asked c.report.ensures.sure;
}
