use Rattle.std.proofs.Common.{arith, subst, sym}
use Rattle.mq_join.specs.Items.{AreFresh}
use Rattle.mq_join.proofs.Rows.{fresh-more}
use Rattle.mq_join.proofs.matches.new_rows.Goals as goal

pub loop-preserved : goal.loop-preserved
loop-preserved c =
    let len = c.push_reserved.ensures.len in
    let room = c.push_reserved.ensures.capacity in
    record {
      fresh = subst AreFresh (sym c.push_reserved.ensures.items) (fresh-more c.loop.rows.items c.new.result c.loop.invariant.fresh c.new.ensures.counts c.new.ensures.places);
      len = omega arith;
      room = omega arith;
    }
