use Rattle.std.proofs.Common.{◌≡◌, ◌+◌, [], length, ap, ◌∙◌, arith}
use Rattle.std.proofs.lemmas.List.{length_push}
use Rattle.std.proofs.lemmas.List.Elements.{All-push, All-same}
use Rattle.mq_kept.specs.Formers.{no_lists}
use Rattle.mq_kept.specs.declared.checkpoints.Checkpoints.TheVariants.{Nothing}
use Rattle.mq_kept.specs.declared.former.NodeLists.{NodeLists}
use Rattle.mq_kept.proofs.Formers.{all-nothing}
use Rattle.mq_kept.proofs.former.no_nodes.Goals as goal

pub push_reserved-requires : goal.push_reserved-requires
push_reserved-requires c = let size = c.loop.visits.ok.0 in let was = c.loop.invariant.came in let room = c.loop.invariant.room_came in omega arith

pub push_reserved-requires-in-loop : goal.push_reserved-requires-in-loop
push_reserved-requires-in-loop c = let size = c.loop.outputs.ok.0 in let was = c.loop.invariant.left in let room = c.loop.invariant.room_left in omega arith

pub push_reserved-requires-in-loop-2 : goal.push_reserved-requires-in-loop-2
push_reserved-requires-in-loop-2 c = let size = c.loop.checkpoints.ok.0 in let was = c.loop.invariant.checkpoints in let room = c.loop.invariant.room_checkpoints in omega arith

pub loop-preserved : goal.loop-preserved
loop-preserved c =
    let was = c.loop.invariant in
    let lists = c.no_lists-lists.ensures in
    record {
      came = ap length c.push_reserved.ensures.items ∙ (length_push _ _ ∙ ap (λ n. n + 1) was.came);
      left = ap length c.push_reserved-in-loop.ensures.items ∙ (length_push _ _ ∙ ap (λ n. n + 1) was.left);
      checkpoints = ap length c.push_reserved-in-loop-2.ensures.items ∙ (length_push _ _ ∙ ap (λ n. n + 1) was.checkpoints);
      no_visits = All-same (λ visits. visits ≡ no_lists.visits) _ _ c.push_reserved.ensures.items (All-push (λ visits. visits ≡ no_lists.visits) _ _ was.no_visits (ap (λ (l : NodeLists). l.visits) lists));
      no_streams = All-same (λ streams. streams ≡ []) _ _ c.push_reserved-in-loop.ensures.items (All-push (λ streams. streams ≡ []) _ _ was.no_streams (ap (λ (l : NodeLists). l.streams) lists));
      no_checkpoints = All-same (λ points. points ≡ Nothing) _ _ c.push_reserved-in-loop-2.ensures.items (All-push (λ points. points ≡ Nothing) _ _ was.no_checkpoints (ap (λ (l : NodeLists). l.checkpoints) lists));
      room_came = let room = was.room_came in let same = c.push_reserved.ensures.capacity in omega arith;
      room_left = let room = was.room_left in let same = c.push_reserved-in-loop.ensures.capacity in omega arith;
      room_checkpoints = let room = was.room_checkpoints in let same = c.push_reserved-in-loop-2.ensures.capacity in omega arith;
    }

pub returns-clause-nothing : goal.returns-clause-nothing
returns-clause-nothing c = all-nothing (record { visits = c.loop.visits; outputs = c.loop.outputs; checkpoints = c.loop.checkpoints }) c.loop.invariant.no_visits c.loop.invariant.no_streams c.loop.invariant.no_checkpoints
