use Rattle.std.proofs.Common.{◌≡◌, ◌+◌, length, length-append, ap, ◌∙◌, ◌∷◌, [], arith}
use Rattle.mq_split.specs.Outs.{outs_from, picked_stream}
use Rattle.mq_kinds.proofs.SplitBlocks.{blocks-short, have-parts, part-more}
use Rattle.mq_kinds.proofs.split.split_joined.Goals as goal

pub joined_output-requires : goal.joined_output-requires
joined_output-requires c =
    let made = c.requires.made in
    record {
      few = blocks-short c.args.route.now made.0 made.1 made.2 c.args.group.now made.3;
      parts = have-parts c.args.route.now made.0 made.1 made.2 c.args.group.now c.loop-out.out (omega arith) made.3;
    }

pub loop-out-preserved : goal.loop-out-preserved
loop-out-preserved c =
    let was = c.loop-out.invariant in
    let count : length c.loop-out.streams ≡ c.loop-out.out = was.count in
    record {
      count = ap length c.in-Ok-push.ensures.ok ∙ (length-append c.loop-out.streams (c.in-Ok.stream ∷ []) ∙ ap (λ n. n + 1) count);
      parts = λ arrivals values blocks h.
          part-more c.loop-out.streams _ c.in-Ok.stream (picked_stream (outs_from c.args.route.now 0 values) arrivals) c.loop-out.out count c.in-Ok-push.ensures.ok
          (c.in-Ok.ensures c.args.route.now arrivals values blocks (omega arith) h) (was.parts arrivals values blocks h);
    }

pub returns : goal.returns
returns c arrivals values blocks h =
    let count = c.loop-out.invariant.count in
    record {
      count = omega arith;
      parts = λ out l. c.loop-out.invariant.parts arrivals values blocks h out (omega arith);
    }
