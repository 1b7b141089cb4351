use Rattle.std.proofs.Common.{◌≡◌, ◌≤◌, None, length, map, refl, subst, sym}
use Rattle.mq_core.specs.Laws.{Rises}
use Rattle.mq_core.specs.Results.{first_of}
use Rattle.mq_core.specs.Sequences.{sequence_late_from}
use Rattle.mq_core.specs.declared.model.Fate.TheVariants.{Departs}
use Rattle.mq_core.specs.declared.model.Stream.{Stream}
use Rattle.mq_exits.specs.Loads.{IsLoaded}
use Rattle.mq_engine.proofs.Sent.{node-laws, sent-missed, source-kind}
use Rattle.mq_engine.proofs.sources.sent_of.Goals as goal

pub first_late_in_turn-requires-clause-few : goal.first_late_in_turn-requires-clause-few
first_late_in_turn-requires-clause-few c = subst (λ (s : Stream). length s.time ≤ 1048576) (sym c.stream.ensures) c.requires.loaded.load.few

pub first_late_in_turn-requires-clause-rising : goal.first_late_in_turn-requires-clause-rising
first_late_in_turn-requires-clause-rising c = subst (λ (s : Stream). Rises (λ a b. a ≤ b) s.time) (sym c.stream.ensures) c.requires.loaded.load.ordered.ordered.rising

pub returns-in-Some : goal.returns-in-Some
returns-in-Some c =
    let l = subst (IsLoaded c.args.plan.now c.args.rows.now c.args.arrived.number) (sym c.stream.ensures) c.requires.loaded in
    let laws = node-laws c.core_laws.ensures c.orders_keep_items.ensures c.sequences_go_by_fates.ensures in
    let source = source-kind l.node.kind (c.requires.source l.node l.there) in
    (refl, λ form. (l.node, l.there, sent-missed laws c.args.plan.now c.args.rows.now c.args.arrived.number c.stream.result.now c.requires.read l source form c.in-Some.past c.in-Some.ensures))

pub sent_on_time-requires-clause-early : goal.sent_on_time-requires-clause-early
sent_on_time-requires-clause-early c =
    subst (λ (s : Stream). first_of (sequence_late_from c.args.plan.now.net.bound c.args.arrived.number 0 (map (λ time. Departs time) s.time)) ≡ None) c.stream.ensures c.in-None.ensures
