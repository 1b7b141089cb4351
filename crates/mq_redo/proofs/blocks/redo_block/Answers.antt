use Rattle.std.proofs.Common.{◌∙◌, ◌+◌, ◌-◌, subst, sym, arith}
use Rattle.mq_redo.proofs.Doing.{carries-on, fold-on}
use Rattle.mq_redo.proofs.blocks.redo_block.Goals as goal

pub through_block-requires-clause-acts : goal.through_block-requires-clause-acts
through_block-requires-clause-acts g c = λ n l.
    let step = c.args.step.now in
    subst (λ (carry : g.row.P-Carry.Denot). g.P.Step.can_act (g.P.Step.part step (c.args.from + n)) carry) (sym (fold-on g.P.Step.acted (g.P.Step.start step) (g.P.Step.part step) c.args.from c.args.carry c.requires.before n)) (g.met.P.Step.spans_act step (c.args.from + n) 0 (let inside = c.requires.inside in omega arith))

pub through_block-requires-clause-order : goal.through_block-requires-clause-order
through_block-requires-clause-order g c = let some = c.requires.some in omega arith

pub returns-clause-after : goal.returns-clause-after
returns-clause-after g c = c.in_ok-after.ensures.after ∙ carries-on g.P.Step.acted (g.P.Step.start c.args.step.now) (g.P.Step.part c.args.step.now) c.args.from c.args.carry c.requires.before (c.args.to - c.args.from)
