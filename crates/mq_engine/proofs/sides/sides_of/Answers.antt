use Rattle.std.proofs.Common.{ap, ◌∙◌, arith}
use Rattle.mq_engine.specs.declared.sides.Sides.{Sides}
use Rattle.mq_engine.proofs.Parting.{long-next, other-next}
use Rattle.mq_engine.proofs.sides.sides_of.Goals as goal
use Rattle.mq_engine.proofs.sides.sides_of.Goals.{then-is_long+in_ok-push, else-is_long+in_ok-push-2}

pub loop-at-preserved : goal.loop-at-preserved
loop-at-preserved c =
    let ready = c.args.arriving.now.ready.now in
    elim c.if-is_long.branch [
      | then-is_long+in_ok-push w ↦
          long-next ready c.loop-at.at _ c.loop-at.sides.long.items c.loop-at.sides.others.items c.if-is_long.sides.long.items c.if-is_long.sides.others.items (omega arith)
          (ap (λ (x : Sides). x.long.items) w.sides-is ∙ w.in_ok-push.ensures.items) (ap (λ (x : Sides). x.others.items) w.sides-is) c.loop-at.invariant
      | else-is_long+in_ok-push-2 w ↦
          other-next ready c.loop-at.at _ c.loop-at.sides.long.items c.loop-at.sides.others.items c.if-is_long.sides.long.items c.if-is_long.sides.others.items (omega arith)
          (ap (λ (x : Sides). x.long.items) w.sides-is) (ap (λ (x : Sides). x.others.items) w.sides-is ∙ w.in_ok-push-2.ensures.items) c.loop-at.invariant
    ]
