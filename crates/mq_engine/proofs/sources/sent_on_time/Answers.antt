use Rattle.std.proofs.Common.{sym, subst, ◌∷◌, [], List, ℕ, refl}
use Rattle.mq_core.specs.Came.{came_in}
use Rattle.mq_core.specs.Sequences.{sequence_visits}
use Rattle.mq_core.specs.declared.model.Kind.TheVariants.{Source}
use Rattle.mq_core.specs.declared.model.Node.{Node}
use Rattle.mq_core.specs.declared.model.Stream.{Stream}
use Rattle.mq_counts.specs.Counts.{IsCountOf}
use Rattle.mq_merge.specs.Borrowed.{stream_in}
use Rattle.mq_stats.specs.Numbers.{AreLeaving}
use Rattle.mq_engine.proofs.Numbers.{known-streams}
use Rattle.mq_engine.proofs.Sent.{node-laws, sent-known, sent-told, source-kind}
use Rattle.mq_engine.proofs.sources.sent_on_time.Goals as goal

pub count_sent-requires : goal.count_sent-requires
count_sent-requires c =
    let plan = c.args.plan.now in
    let rows = c.args.rows.now in
    let l = c.requires.loaded in
    let laws = node-laws c.core_laws.ensures c.orders_keep_items.ensures c.sequences_go_by_fates.ensures in
    let source = source-kind l.node.kind (c.requires.source l.node l.there) in
    let k = sent-known laws plan rows c.args.number (stream_in c.args.arrivals) c.requires.read l source c.fates_are_in_time.ensures c.requires.early in
    subst (AreLeaving rows) (sym c.stream.ensures) (known-streams c.runs_give_visits.ensures c.core_laws.ensures.leave plan rows c.requires.read c.args.number l.node l.there _ _ k).0

pub returns : goal.returns
returns c =
    let plan = c.args.plan.now in
    let rows = c.args.rows.now in
    let v = c.args.number in
    let stream = stream_in c.args.arrivals in
    let l = c.requires.loaded in
    let laws = node-laws c.core_laws.ensures c.orders_keep_items.ensures c.sequences_go_by_fates.ensures in
    let source = source-kind l.node.kind (c.requires.source l.node l.there) in
    let k = sent-known laws plan rows v stream c.requires.read l source c.fates_are_in_time.ensures c.requires.early in
    let count = c.in-Ok.count in
    let is =
    subst (λ (z : List Node × Stream). (form : ℕ) → IsCountOf z.0 rows form v Source (sequence_visits rows Source (came_in z.1)) (z.1 ∷ []) count) (λ i. (c.as_slice-nodes.ensures i, c.stream.ensures i)) c.in-Ok.ensures in
    (refl, λ form. (l.node, l.there, sent-told laws plan rows v stream c.requires.read l source form count c.in-Ok-passed_on.streams k c.in-Ok-passed_on.ensures (is form)))
