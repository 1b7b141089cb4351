use Rattle.std.proofs.Common.{◌++◌, ◌∷◌, ◌∙◌, [], arith}
use Rattle.mq_join.specs.Items.{port_at}
use Rattle.mq_join.proofs.Steps.{map-more}
use Rattle.mq_join.proofs.order.ports_at.Goals as goal

pub loop-at-preserved : goal.loop-at-preserved
loop-at-preserved c =
    record {
      so_far = c.push_reserved.ensures.items ∙ ((λ k. c.loop-at.invariant.so_far k ++ c.port_of.ensures k ∷ []) ∙ map-more (port_at c.args.first.now c.args.further) c.args.indices.now c.loop-at.at _ c.get.ensures);
      len = omega arith;
      room = omega arith;
    }
