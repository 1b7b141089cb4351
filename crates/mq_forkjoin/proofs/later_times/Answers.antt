use Rattle.std.proofs.Common.{◌∙◌, ◌≤◌, length, arith, rules}
use Rattle.mq_forkjoin.proofs.ForkJoining.{later-next, later-all}
use Rattle.mq_forkjoin.proofs.later_times.Goals as goal

pub loop-at-preserved : goal.loop-at-preserved
loop-at-preserved c =
    record {
      so_far = later-next _ _ _ c.args.one.now c.args.other.now _ c.loop-at.at _ _ (search rules) c.get.ensures c.get-in-loop-at.ensures c.push_reserved.ensures.items c.loop-at.invariant.so_far;
      len = omega arith;
      room = omega arith;
    }

pub returns : goal.returns
returns c =
    let ended : length c.args.one.now ≤ c.loop-at.at = omega arith in
    c.from_vec.ensures ∙ later-all _ _ _ _ _ ended c.loop-at.invariant.so_far
