use Rattle.std.proofs.Common.{◌+◌, ap, decimal}
use Rattle.mq_gen.proofs.TraceText.{behind, pieces}
use Rattle.mq_gen.proofs.trace.push_record.Goals as goal

pub returns-clause-text : goal.returns-clause-text
returns-clause-text c =
    let step = c.draw.ensures.drawn in
    let source = c.draw-source.ensures.drawn in
    let a = c.draw-a.ensures.drawn in
    let b = c.draw-b.ensures.drawn in
    rw (behind c.args.last c.args.generator.now c.draw.new.generator c.draw-source.new.generator c.draw-a.new.generator c.draw.ensures.moved c.draw-source.ensures.moved c.draw-a.ensures.moved, ← step, ← source, ← a, ← b)
    (pieces _ _ _ _ _ _ (decimal c.draw-source.result) (decimal (c.args.last + c.draw.result)) (decimal c.draw-a.result) (decimal c.draw-b.result)
    c.in_ok-push.ensures.items c.in_ok-push_field.ensures c.in_ok-push_field-2.ensures c.in_ok-push_field-3.ensures c.in_ok-push_field-4.ensures)

pub returns-clause-moved : goal.returns-clause-moved
returns-clause-moved c =
    rw (behind c.args.last c.args.generator.now c.draw.new.generator c.draw-source.new.generator c.draw-a.new.generator c.draw.ensures.moved c.draw-source.ensures.moved c.draw-a.ensures.moved)
    c.draw-b.ensures.moved

pub returns-clause-time : goal.returns-clause-time
returns-clause-time c =
    rw (behind c.args.last c.args.generator.now c.draw.new.generator c.draw-source.new.generator c.draw-a.new.generator c.draw.ensures.moved c.draw-source.ensures.moved c.draw-a.ensures.moved)
    (ap (λ step. c.args.last + step) c.draw.ensures.drawn)
