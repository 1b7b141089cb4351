use Rattle.std.proofs.Common.{refl, false, [], ◌++◌}
use Rattle.std.proofs.lemmas.Result.{on_err_weaker}
use Rattle.mq_outside.proofs.lemmas.Gathers.{part_flushed}
use Rattle.mq_report.specs.Text.{report_in}
use Rattle.mq_edit.specs.Answer.{again_line}
use Rattle.mq_edit.proofs.write.put_report.Goals as goal

pub returns-clause-err : goal.returns-clause-err
returns-clause-err g c =
    let report = report_in c.args.plan.now.net c.args.rows.now 2 false in
    let again = again_line c.args.redone.again c.args.redone.all in
    on_err_weaker _ (part_flushed _ _ _ _ _ _ [] again (report ++ again) refl (record { done = report; took = c.in_ok-report.ensures.ok; split = refl })) c.put_again.ensures.err
