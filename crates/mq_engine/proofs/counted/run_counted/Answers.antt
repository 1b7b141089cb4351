use Rattle.std.proofs.Common.{◌∙◌, ◌<◌, List, count_by, filter, refl, subst, sym}
use Rattle.std.proofs.lemmas.Result.{IfOk-weaker}
use Rattle.mq_engine.specs.Progress.{is_ready, is_waiting}
use Rattle.mq_engine.specs.declared.progress.Stand.{Stand}
use Rattle.mq_engine.proofs.Lists.{some-item}
use Rattle.mq_engine.proofs.Kept.{counting-begins, told-nodes, told-wait}
use Rattle.mq_engine.proofs.counted.run_counted.Goals as goal

pub settle_told-requires-clause-waits : goal.settle_told-requires-clause-waits
settle_told-requires-clause-waits g c =
    told-wait c.args.plan.now c.args.rows.now c.args.form c.waves.counting.stands.items (filter (is_ready c.args.plan.now.net.nodes c.waves.counting.stands.items) c.args.plan.now.order) c.in-Ok.told refl c.in-Ok.ensures.told

pub let_go-requires-clause-left : goal.let_go-requires-clause-left
let_go-requires-clause-left g c = (
    c.settle_told.ensures.reached c.args.plan.now c.args.rows.now c.args.form c.waves.invariant (told-nodes c.args.plan.now c.args.rows.now c.args.form _ c.in-Ok.told c.in-Ok.ensures.told)).left

pub let_go-requires-clause-stand : goal.let_go-requires-clause-stand
let_go-requires-clause-stand g c = (
    c.settle_told.ensures.reached c.args.plan.now c.args.rows.now c.args.form c.waves.invariant (told-nodes c.args.plan.now c.args.rows.now c.args.form _ c.in-Ok.told c.in-Ok.ensures.told)).stand

pub waves-preserved : goal.waves-preserved
waves-preserved g c = c.let_go.ensures.counting c.args.rows.now c.args.form (
    c.settle_told.ensures.reached c.args.plan.now c.args.rows.now c.args.form c.waves.invariant (told-nodes c.args.plan.now c.args.rows.now c.args.form _ c.in-Ok.told c.in-Ok.ensures.told))

pub returns-then-is_empty-clause-ok : goal.returns-then-is_empty-clause-ok
returns-then-is_empty-clause-ok g c = IfOk-weaker c.ended_counts.result _ _ (λ counts told. told c.args.form c.waves.invariant) c.ended_counts.ensures.ok

pub waves-init : goal.waves-init
waves-init g c =
    let made = c.in_ok-counting.ensures in
    counting-begins c.args.plan.now c.args.rows.now c.args.form _ _ _ (made.came ∙ c.len.ensures) (made.left ∙ c.len.ensures) made.none (made.stand ∙ c.len.ensures) made.waits

pub settle_told-requires-clause-came : goal.settle_told-requires-clause-came
settle_told-requires-clause-came g c = c.waves.invariant.came ∙ sym c.waves.invariant.stand

pub settle_told-requires-clause-left : goal.settle_told-requires-clause-left
settle_told-requires-clause-left g c = c.waves.invariant.left ∙ sym c.waves.invariant.stand

pub waves-smaller : goal.waves-smaller
waves-smaller g c =
    subst (λ (l : List Stand). count_by is_waiting l < count_by is_waiting c.waves.counting.stands.items) (sym c.let_go.ensures.stand) (c.settle_told.ensures.fewer (some-item c.in-Ok.told _ c.if-is_empty.false c.is_empty.ensures.1))
