use Rattle.std.proofs.Common.{◌∙◌, ◌≤◌, Err, IfOk, Ok, Result, ap, length, length-append, subst, sym}
use Rattle.std.specs.List.{range_with_len}
use Rattle.std.proofs.lemmas.Result.{IfOk-weaker}
use Rattle.mq_core.specs.Laws.{Rises}
use Rattle.mq_join.proofs.Gathering.{merged-indices, numbered-stream, order-inside, order-many}
use Rattle.mq_join.proofs.order.indices_by_time.Goals as goal

both : {T E : Type 0} (r : Result T E) (P Q : T → Type 0) → IfOk r P → IfOk r Q → IfOk r (λ x. P x × Q x)
both (Ok x) P Q p q = (p, q)
both (Err y) P Q p q = tt

pub merge_two-order-requires-clause-a : goal.merge_two-order-requires-clause-a
merge_two-order-requires-clause-a c =
    record {
      even = numbered-stream c.in_ok-front.front c.args.first.now 0 c.in_ok-front.ensures.time c.in_ok-front.ensures.job;
      rising = subst (Rises (λ a b. a ≤ b)) (sym c.in_ok-front.ensures.time) c.requires.first;
    }

pub merge_two-order-requires-clause-b : goal.merge_two-order-requires-clause-b
merge_two-order-requires-clause-b c =
    record {
      even = numbered-stream c.in-Ok.behind c.args.second.now c.len.result c.in-Ok.ensures.time c.in-Ok.ensures.job;
      rising = subst (Rises (λ a b. a ≤ b)) (sym c.in-Ok.ensures.time) c.requires.second;
    }

pub returns-clause-stream : goal.returns-clause-stream
returns-clause-stream c = c.merge_two-order.ensures.stream

pub returns-clause-items : goal.returns-clause-items
returns-clause-items c =
    IfOk-weaker c.merge_two-order.result _ _
    (λ order items. merged-indices c.in_ok-front.front c.in-Ok.behind order c.args.first.now c.args.second.now c.in_ok-front.ensures.time c.in-Ok.ensures.time c.in_ok-front.ensures.job
    (c.in-Ok.ensures.job ∙ ap (λ k. range_with_len k (length c.args.second.now)) c.len.ensures) items) c.merge_two-order.ensures.items

pub returns-clause-many : goal.returns-clause-many
returns-clause-many c =
    IfOk-weaker c.merge_two-order.result _ _ (λ order h. order-many order _ _ h.0 (length-append c.args.first.now c.args.second.now) h.1)
    (both c.merge_two-order.result _ _ c.merge_two-order.ensures.stream (returns-clause-items c))

pub returns-clause-inside : goal.returns-clause-inside
returns-clause-inside c =
    IfOk-weaker c.merge_two-order.result _ _ (λ order h. order-inside order _ _ h.0 h.1)
    (both c.merge_two-order.result _ _ c.merge_two-order.ensures.stream (returns-clause-items c))
