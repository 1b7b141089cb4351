use Rattle.std.proofs.Common.{◌≡◌, ◌+◌, length, refl, ap, ◌∙◌, arith}
use Rattle.std.proofs.lemmas.List.{length_push}
use Rattle.std.proofs.lemmas.List.Elements.{All-push, All-same}
use Rattle.mq_kept.specs.declared.former.Former.{Former}
use Rattle.mq_kept.specs.declared.former.Former.TheVariants.{Same}
use Rattle.mq_kept.proofs.former.all_same.Goals as goal

pub push_reserved-requires : goal.push_reserved-requires
push_reserved-requires c = let size = c.loop.formers.ok.0 in let was = c.loop.invariant.count in let room = c.loop.invariant.room in omega arith

pub loop-preserved : goal.loop-preserved
loop-preserved c =
    let was = c.loop.invariant in
    let is_same = λ (former : Former). former ≡ Same in
    record {
      count = ap length c.push_reserved.ensures.items ∙ (length_push _ _ ∙ ap (λ n. n + 1) was.count);
      same = All-same is_same _ _ c.push_reserved.ensures.items (All-push is_same _ _ was.same refl);
      room = let room = was.room in let same = c.push_reserved.ensures.capacity in omega arith;
    }
