use Rattle.std.proofs.Common.{◌∙◌, ◌<◌, length, get_or, ap, arith}
use Rattle.std.proofs.lemmas.Option.{slice_get-get_or}
use Rattle.mq_base.proofs.lemmas.Lists.{map-all}
use Rattle.mq_stations.proofs.lemmas.Lists.{map-more}
use Rattle.mq_exits.proofs.working.nobody.Goals as goal

pub loop-preserved : goal.loop-preserved
loop-preserved c =
    let all = ap length c.as_slice-items.ensures in
    let within : c.loop.index < length c.args.arrive.now = omega arith in
    record {
      so_far = map-more (λ _. 0) c.args.arrive.now c.loop.index (get_or c.args.arrive.now c.loop.index 0) _ _ (slice_get-get_or c.args.arrive.now c.loop.index 0 within) c.push_reserved.ensures.items c.loop.invariant.so_far;
      len = omega arith;
      room = omega arith;
    }

pub returns : goal.returns
returns c =
    let all = ap length c.as_slice-items.ensures in
    c.from_vec.ensures ∙ map-all (λ _. 0) c.args.arrive.now c.loop.index c.loop.found.items (omega arith) c.loop.invariant.so_far
