use Rattle.std.proofs.Common.{◌∙◌, sym, ap, arith, ◌+◌}
use Rattle.std.proofs.lemmas.Result.{err_from_is_err_and}
use Rattle.mq_base.specs.Text.{texts}
use Rattle.mq_trace.specs.Trace.{source_named}
use Rattle.mq_edits.specs.Edits.{value_fault}
use Rattle.mq_edits.proofs.WordFacts.{behind_first, good_number, row_unknown, row_values, word_is}
use Rattle.mq_edits.proofs.line.read_row.Goals as goal

pub returns-in_default-clause-err : goal.returns-in_default-clause-err
returns-in_default-clause-err c =
    λ _. row_unknown c.args.net.now c.args.line c.args.number (texts c.args.words.now)
    (c.in_default.ensures ∙ ap (source_named c.args.net.now) (sym (word_is c.args.words.now 0 _ (omega (arith, c.requires.each)))))

pub returns-in_err-values-clause-err : goal.returns-in_err-values-clause-err
returns-in_err-values-clause-err c =
    let p = err_from_is_err_and c.from_residual.result c.from_residual.ensures.1 in
    let some = c.in-Some.ensures ∙ ap (source_named c.args.net.now) (sym (word_is c.args.words.now 0 _ (omega (arith, c.requires.each)))) in
    let good = good_number c.args.words.now 1 _ _ _ (omega (arith, c.requires.each)) c.in-Some-read_number.ensures in
    rw (p.1, p.2) (λ h. row_values c.args.net.now c.args.line c.args.number c.in-Some.source (texts c.args.words.now) some good
    ∙ ap (value_fault c.args.line (c.args.number + 2)) (sym (behind_first c.args.words.now 2)) ∙ c.in_err-values.ensures.err h)
