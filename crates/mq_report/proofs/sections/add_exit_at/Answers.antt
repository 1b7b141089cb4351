use Rattle.std.proofs.Common.{◌≡◌, ◌∙◌, [], ap, refl, sym}
use Rattle.mq_outside.proofs.lemmas.Gathers.{gathers_all}
use Rattle.mq_core.specs.StandardTable.{run_of}
use Rattle.mq_counts.specs.Counts.{is_read}
use Rattle.mq_report.specs.Text.{exit_lines_at}
use Rattle.mq_report.proofs.Loops.{gathers_begun}
use Rattle.mq_report.proofs.sections.add_exit_at.Goals as goal

pub returns-then-is_read : goal.returns-then-is_read
returns-then-is_read g c =
    let none : exit_lines_at c.args.plan.now.net.nodes c.args.rows.now c.args.node c.args.declared.now.name ((run_of c.args.plan.now c.args.rows.now).stations c.args.node) c.args.output ≡ [] =
    rw (sym (ap (λ nodes. is_read nodes c.args.node c.args.output) c.as_slice.ensures) ∙ (sym c.is_read.ensures ∙ c.if-is_read.true)) refl
    in
    gathers_all none (gathers_begun _ _ _ _ _ _ refl)

pub returns : goal.returns
returns g c =
    rw (sym (ap (λ nodes. is_read nodes c.args.node c.args.output) c.as_slice.ensures) ∙ (sym c.is_read.ensures ∙ c.if-is_read.false))
    (rw (c.as_slice-2.ensures, c.exit_at-exit.ensures) at c.add_exit.ensures)
