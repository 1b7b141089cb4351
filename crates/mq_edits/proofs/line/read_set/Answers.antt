use Rattle.std.proofs.Common.{◌≡◌, ◌∙◌, sym, ap, arith, length, refl, ◌+◌}
use Rattle.std.proofs.lemmas.Result.{err_from_is_err_and}
use Rattle.mq_base.specs.Text.{texts}
use Rattle.mq_edits.specs.Edits.{record_named, row_fault}
use Rattle.mq_edits.specs.declared.edit.Edit.TheVariants.{Set}
use Rattle.mq_edits.specs.declared.line.Row.{Row}
use Rattle.mq_edits.proofs.WordFacts.{behind_first, long, set_row, word_is}
use Rattle.mq_edits.proofs.line.read_set.Goals as goal

pub returns-in_err-source-clause-err : goal.returns-in_err-source-clause-err
returns-in_err-source-clause-err c =
    let p = err_from_is_err_and c.from_residual-in_err-source.result c.from_residual-in_err-source.ensures.1 in
    let count : length (texts c.args.words.now) + 1 ≡ length c.args.net.now.columns + 4 = omega (arith, long c.args.words.now, c.in_ok-check_count.ensures.ok, c.len.ensures) in
    let some = c.in-Some.ensures ∙ ap (record_named c.args.rows) (sym (word_is c.args.words.now 0 _ (omega (arith, c.in_ok-check_count.ensures.ok)))) in
    rw (p.1, p.2) (λ h. (set_row c.args.net.now c.args.rows c.args.line c.in-Some.row (texts c.args.words.now) count some).0 ∙ ap (row_fault c.args.net.now c.args.line 3) (sym (behind_first c.args.words.now 1)) ∙ c.in_err-source.ensures.err h)

pub returns-clause-ok : goal.returns-clause-ok
returns-clause-ok c =
    let count : length (texts c.args.words.now) + 1 ≡ length c.args.net.now.columns + 4 = omega (arith, long c.args.words.now, c.in_ok-check_count.ensures.ok, c.len.ensures) in
    let some = c.in-Some.ensures ∙ ap (record_named c.args.rows) (sym (word_is c.args.words.now 0 _ (omega (arith, c.in_ok-check_count.ensures.ok)))) in
    let row = set_row c.args.net.now c.args.rows c.args.line c.in-Some.row (texts c.args.words.now) count some in
    let read = c.in_ok-source.ensures.ok in (
      row.0 ∙ ap (row_fault c.args.net.now c.args.line 3) (sym (behind_first c.args.words.now 1)) ∙ read.0,
      ap (λ (r : Row). Set c.in-Some.row r.source r.time r.values) read.1 ∙ rw (row.1, ← behind_first c.args.words.now 1) refl,
    )
