use Rattle.std.proofs.Common.{◌≤◌, ◌∙◌, length, arith}
use Rattle.mq_delay.proofs.Lists.{delayed-next, delayed-all, early}
use Rattle.mq_delay.proofs.delay_departures.Goals as goal

pub overflow_add-get : goal.overflow_add-get
overflow_add-get c =
    let e = early _ _ _ _ _ c.requires c.get.ensures c.get-in-loop-at.ensures in
    omega arith

pub loop-at-preserved : goal.loop-at-preserved
loop-at-preserved c =
    record {
      so_far = delayed-next _ _ _ c.args.stream.now.time c.args.demands.now c.loop-at.at _ _ c.get.ensures c.get-in-loop-at.ensures c.push_reserved.ensures.items c.loop-at.invariant.so_far;
      len = omega arith;
      room = omega arith;
    }

pub returns : goal.returns
returns c =
    let ended : length c.args.stream.now.time ≤ c.loop-at.at = omega arith in
    c.from_vec.ensures ∙ delayed-all _ _ _ _ _ ended c.loop-at.invariant.so_far
