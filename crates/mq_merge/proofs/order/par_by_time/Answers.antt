use Rattle.std.proofs.Common.{◌≤◌, ℕ, sym, ap, ◌∙◌, subst}
use Rattle.std.proofs.lemmas.Result.{IfOk-weaker}
use Rattle.mq_core.proofs.lemmas.Rising.{Rises-in_order_of}
use Rattle.mq_core.specs.Streams.{by_first}
use Rattle.mq_core.specs.Laws.{Rises}
use Rattle.mq_merge.proofs.order.par_by_time.Goals as goal

pub stream_from_items-requires : goal.stream_from_items-requires
stream_from_items-requires g c =
    subst (Rises (λ (p q : ℕ × ℕ). p.0 ≤ q.0)) (sym (c.deref.ensures.value ∙ c.in_ok-par_sort_by_first.ensures.ok)) (Rises-in_order_of (λ (p : ℕ × ℕ). p.0) c.in_ok-items.items.items)

pub returns-clause-items : goal.returns-clause-items
returns-clause-items g c =
    IfOk-weaker c.stream_from_items.result _ _ (λ s e. e ∙ (c.deref.ensures.value ∙ (c.in_ok-par_sort_by_first.ensures.ok ∙ ap by_first c.in_ok-items.ensures))) c.stream_from_items.ensures.items
