use Rattle.std.proofs.Common.{◌++◌, ◌∷◌, ◌∙◌, [], arith}
use Rattle.std.specs.Prelude.{slice_index}
use Rattle.mq_join.proofs.Steps.{map-more}
use Rattle.mq_join.proofs.order.jobs_at.Goals as goal

pub loop-at-preserved : goal.loop-at-preserved
loop-at-preserved c =
    record {
      so_far = c.push_reserved.ensures.items ∙ ((λ k. c.loop-at.invariant.so_far k ++ c.job_of.ensures k ∷ []) ∙ map-more (slice_index (c.args.first.now ++ c.args.second.now)) c.args.indices.now c.loop-at.at _ c.get.ensures);
      len = omega arith;
      room = omega arith;
    }
