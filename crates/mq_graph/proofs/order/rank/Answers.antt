use Rattle.std.proofs.Common.{◌≡◌, length, ap, arith, Some, None}
use Rattle.std.specs.Prelude.{is_some}
use Rattle.std.proofs.lemmas.List.{append-nil}
use Rattle.mq_core.specs.Wiring.{first_ready}
use Rattle.mq_graph.specs.Rank.{first_outside}
use Rattle.mq_graph.proofs.Cycles.{cycles-left}
use Rattle.mq_graph.proofs.Complete.{has_all}
use Rattle.mq_graph.proofs.RankSteps.{next_step, last_step, left_is}
use Rattle.mq_graph.proofs.order.rank.Goals as goal
use Rattle.mq_graph.proofs.order.rank.Goals.{in-Some+in_ok-push, in_default}

pub loop-step-preserved : goal.loop-step-preserved
loop-step-preserved c =
    let nodes = c.as_slice-nodes.result.now in
    elim c.match-first_ready.branch [
      | in-Some+in_ok-push w ↦
          let found : first_ready c.loop-step.order 0 nodes ≡ Some w.in-Some.node = cc in
          rw (w.order-is, w.in_ok-push.ensures.ok) (next_step nodes c.loop-step.order c.loop-step._step _ c.loop-step-test.true found c.loop-step.invariant)
      | in_default w ↦
          let found : first_ready c.loop-step.order 0 nodes ≡ None = cc in
          rw (w.order-is) (rw (← append-nil c.loop-step.order) (next_step nodes c.loop-step.order c.loop-step._step _ c.loop-step-test.true found c.loop-step.invariant))
    ]

pub returns-in-Some-first_outside-clause-order : goal.returns-in-Some-first_outside-clause-order
returns-in-Some-first_outside-clause-order c =
    let nodes = c.as_slice-nodes.result.now in
    let last = last_step nodes c.loop-step.order c.loop-step._step (omega arith) c.loop-step.invariant in
    let lacks : first_outside c.loop-step.order (length nodes) ≡ Some c.in-Some-first_outside.node = cc in
    rw (← c.as_slice-nodes.ensures) (left_is nodes c.loop-step.order _ last lacks)

pub returns-in-Some-first_outside-clause-cycle : goal.returns-in-Some-first_outside-clause-cycle
returns-in-Some-first_outside-clause-cycle c = λ node e. (cycles-left c.args.net.now.nodes c.requires.wired).0 (ap is_some (returns-in-Some-first_outside-clause-order c))

pub returns-in-None-clause-order : goal.returns-in-None-clause-order
returns-in-None-clause-order c =
    let nodes = c.as_slice-nodes.result.now in
    let last = last_step nodes c.loop-step.order c.loop-step._step (omega arith) c.loop-step.invariant in
    let lacks : first_outside c.loop-step.order (length nodes) ≡ None = cc in
    rw (← c.as_slice-nodes.ensures) (last, has_all c.loop-step.order nodes lacks, left_is nodes c.loop-step.order None last lacks)

pub returns-in-None-clause-feed_forward : goal.returns-in-None-clause-feed_forward
returns-in-None-clause-feed_forward c =
    let none = ap is_some (returns-in-None-clause-order c).2 in
    λ cycle. let some = (cycles-left c.args.net.now.nodes c.requires.wired).1 cycle in cc
