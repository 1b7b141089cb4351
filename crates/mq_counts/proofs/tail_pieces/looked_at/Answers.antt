use Rattle.std.proofs.Common.{◌∙◌, ◌<◌, ap, arith, Some}
use Rattle.mq_counts.proofs.CountedTails.{counts-all, counts-few, counts-more, counts-none, counts-there}
use Rattle.mq_counts.proofs.tail_pieces.looked_at.Goals as goal

pub loop-b-init : goal.loop-b-init
loop-b-init c = counts-none c.waits_join.ensures c.args.node.now _ c.in_ok-sum.ensures

pub counts_added-requires : goal.counts_added-requires
counts_added-requires c =
    let its = counts-there c.args.node.now c.args.group.now c.loop-b.b c.in-Some.more c.requires.group (c.get.ensures ∙ ap (λ o. Some o) c.in-Some.is) in
    record {
      before = (_, c.loop-b.invariant);
      after = (_, its);
      few = counts-few c.waits_join.ensures c.args.node.now c.loop-b.b c.loop-b.sum _ c.requires.waited c.loop-b.invariant its;
    }

pub loop-b-preserved : goal.loop-b-preserved
loop-b-preserved c =
    counts-more c.waits_join.ensures c.args.node.now c.loop-b.b c.loop-b.sum _ _ c.requires.waited c.loop-b.invariant
    (counts-there c.args.node.now c.args.group.now c.loop-b.b c.in-Some.more c.requires.group (c.get.ensures ∙ ap (λ o. Some o) c.in-Some.is)) c.in_ok-sum-2.ensures

pub counted_percentiles-tail-requires : goal.counted_percentiles-tail-requires
counted_percentiles-tail-requires c = record { some = c.loop-b.invariant.some; room = c.loop-b.invariant.room; few = c.loop-b.invariant.few }

pub returns : goal.returns
returns c =
    let len = c.requires.group.len in
    let some : 0 < c.args.node.now.most = omega arith in
    c.counted_percentiles-tail.ensures.percentiles _ (counts-all c.waits_join.ensures c.args.node.now c.loop-b.b c.loop-b.sum c.requires.waited some (omega arith) c.loop-b.invariant)
