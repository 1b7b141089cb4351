use Rattle.std.proofs.Common.{◌∙◌, ◌++◌, ◌∷◌, [], None, ap, sym}
use Rattle.std.proofs.lemmas.Grind.{replicate_next}
use Rattle.mq_crew.proofs.order.vacant.Goals as goal

pub fills-preserved : goal.fills-preserved
fills-preserved g c = c.in_ok-push.ensures.items ∙ (ap (λ xs. xs ++ None ∷ []) c.fills.invariant ∙ sym (replicate_next c.fills.counter None))
