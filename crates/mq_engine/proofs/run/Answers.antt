use Rattle.std.proofs.Common.{◌∙◌, filter, refl, sym}
use Rattle.mq_engine.specs.Progress.{is_ready}
use Rattle.mq_engine.proofs.Lists.{some-item}
use Rattle.mq_engine.proofs.Settling.{reached-begins, ready-wait, results-known}
use Rattle.mq_engine.proofs.run.Goals as goal

pub settle-requires-clause-waits : goal.settle-requires-clause-waits
settle-requires-clause-waits g c =
    ready-wait c.args.plan.now c.args.rows.now c.waves.progress.stands.items (filter (is_ready c.args.plan.now.net.nodes c.waves.progress.stands.items) c.args.plan.now.order) c.in-Ok.results refl c.in-Ok.ensures.known

pub waves-preserved : goal.waves-preserved
waves-preserved g c = c.settle.ensures.reached c.args.plan.now c.args.rows.now c.waves.invariant (results-known c.args.plan.now c.args.rows.now _ c.in-Ok.results c.in-Ok.ensures.known)

pub waves-smaller : goal.waves-smaller
waves-smaller g c = c.settle.ensures.fewer (some-item c.in-Ok.results _ c.if-is_empty.false c.is_empty.ensures.1)

pub waves-init : goal.waves-init
waves-init g c =
    let made = c.in_ok-progress.ensures in
    reached-begins c.args.plan.now c.args.rows.now _ _ _ (made.came ∙ c.len.ensures) (made.left ∙ c.len.ensures) made.none (made.stand ∙ c.len.ensures) made.waits

pub settle-requires-clause-came : goal.settle-requires-clause-came
settle-requires-clause-came g c = c.waves.invariant.came ∙ sym c.waves.invariant.stand

pub settle-requires-clause-left : goal.settle-requires-clause-left
settle-requires-clause-left g c = c.waves.invariant.left ∙ sym c.waves.invariant.stand
