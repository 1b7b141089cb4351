use Rattle.std.proofs.Common.{◌≤◌, length, arith}
use Rattle.mq_base.proofs.lemmas.Zips.{zip-next, zip-all}
use Rattle.mq_merge.proofs.order.items_of.Goals as goal

pub loop-at-preserved : goal.loop-at-preserved
loop-at-preserved c =
    record {
      so_far = zip-next _ _ _ c.args.times.now c.args.jobs.now c.loop-at.at _ _ c.get.ensures c.get-in-loop-at.ensures c.push_reserved.ensures.items c.loop-at.invariant.so_far;
      len = omega arith;
      room = omega arith;
    }

pub returns : goal.returns
returns c =
    let ended : length c.args.times.now ≤ c.loop-at.at = omega arith in
    zip-all _ _ _ _ _ ended c.loop-at.invariant.so_far
