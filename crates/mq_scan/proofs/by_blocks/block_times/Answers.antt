use Rattle.std.proofs.Common.{sym, ap, ◌∙◌}
use Rattle.std.proofs.lemmas.Option.{get_or_from_slice_get, slice_get_within}
use Rattle.mq_scan.specs.Folds.{fold_to}
use Rattle.mq_scan.proofs.by_blocks.block_times.Goals as goal

pub times-requires-clause-before : goal.times-requires-clause-before
times-requires-clause-before g c =
    let step = c.args.step.now in
    let before = c.args.before.now in
    let carry = c.get.result.now in
    sym (get_or_from_slice_get before c.args.b carry carry c.get.ensures)
    ∙ (c.requires.before c.args.b carry (slice_get_within before c.args.b carry c.get.ensures) ∙ ap (fold_to g.P.Step.acted (g.P.Step.start step) (g.P.Step.part step)) (sym c.range-from.ensures.0))
