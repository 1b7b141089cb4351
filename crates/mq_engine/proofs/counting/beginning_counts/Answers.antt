use Rattle.std.proofs.Common.{◌≡◌, ◌+◌, List, [], length, true, refl, ap, ◌∙◌, arith}
use Rattle.std.proofs.lemmas.List.{length_push}
use Rattle.std.proofs.lemmas.List.Elements.{All-push, All-same}
use Rattle.mq_core.specs.declared.model.Stream.{Stream}
use Rattle.mq_engine.specs.Progress.{is_waiting}
use Rattle.mq_engine.specs.declared.progress.Stand.{Stand}
use Rattle.mq_engine.specs.declared.progress.Stand.TheVariants.{Waiting}
use Rattle.mq_engine.proofs.counting.beginning_counts.Goals as goal

pub push_reserved-requires : goal.push_reserved-requires
push_reserved-requires c = let size = c.loop.counts.ok.0 in let was = c.loop.invariant.came in let room = c.loop.invariant.room_came in omega arith

pub push_reserved-requires-in-loop : goal.push_reserved-requires-in-loop
push_reserved-requires-in-loop c = let size = c.loop.outputs.ok.0 in let was = c.loop.invariant.left in let room = c.loop.invariant.room_left in omega arith

pub push_reserved-requires-in-loop-2 : goal.push_reserved-requires-in-loop-2
push_reserved-requires-in-loop-2 c = let size = c.loop.stands.ok.0 in let was = c.loop.invariant.stand in let room = c.loop.invariant.room_stand in omega arith

pub loop-preserved : goal.loop-preserved
loop-preserved c =
    let was = c.loop.invariant in
    let is_empty = λ (streams : List Stream). streams ≡ [] in
    let waits = λ (at : Stand). is_waiting at ≡ true in
    record {
      came = ap length c.push_reserved.ensures.items ∙ (length_push _ _ ∙ ap (λ n. n + 1) was.came);
      left = ap length c.push_reserved-in-loop.ensures.items ∙ (length_push _ _ ∙ ap (λ n. n + 1) was.left);
      none = All-same is_empty _ _ c.push_reserved-in-loop.ensures.items (All-push is_empty _ _ was.none c.new.ensures);
      stand = ap length c.push_reserved-in-loop-2.ensures.items ∙ (length_push _ _ ∙ ap (λ n. n + 1) was.stand);
      waits = All-same waits _ _ c.push_reserved-in-loop-2.ensures.items (All-push waits _ Waiting was.waits refl);
      room_came = let room = was.room_came in let same = c.push_reserved.ensures.capacity in omega arith;
      room_left = let room = was.room_left in let same = c.push_reserved-in-loop.ensures.capacity in omega arith;
      room_stand = let room = was.room_stand in let same = c.push_reserved-in-loop-2.ensures.capacity in omega arith;
    }
