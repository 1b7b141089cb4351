use Rattle.std.proofs.Common.{◌+◌, ◌++◌, ◌∷◌, ◌∙◌, [], ap, arith}
use Rattle.mq_join.proofs.Gathering.{ranges}
use Rattle.mq_join.proofs.order.indices_from.Goals as goal

pub loop-at-preserved : goal.loop-at-preserved
loop-at-preserved c =
    record {
      so_far = c.push_reserved.ensures.items ∙ (ap (λ l. l ++ (c.args.first + c.loop-at.at) ∷ []) c.loop-at.invariant.so_far ∙ ranges c.args.first c.loop-at.at 1);
      len = omega arith;
      room = omega arith;
    }
