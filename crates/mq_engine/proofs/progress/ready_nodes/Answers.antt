use Rattle.std.proofs.Common.{sym, ◌∙◌, ap, arith, filter}
use Rattle.mq_base.proofs.lemmas.Lists.{take-all}
use Rattle.mq_engine.specs.Progress.{is_ready}
use Rattle.mq_engine.proofs.Lists.{filter-kept, filter-left}
use Rattle.mq_engine.proofs.progress.ready_nodes.Goals as goal
use Rattle.mq_engine.proofs.progress.ready_nodes.Goals.{then-may_work+in_ok-push, else-may_work}

pub may_work-requires-clause-count : goal.may_work-requires-clause-count
may_work-requires-clause-count c = c.requires.count

pub may_work-requires-clause-inside : goal.may_work-requires-clause-inside
may_work-requires-clause-inside c = c.requires.within.ranked c.loop-rank.rank c.get-number.result.now c.get-number.ensures

pub may_work-requires-clause-reads : goal.may_work-requires-clause-reads
may_work-requires-clause-reads c = c.requires.within.reads

pub loop-rank-preserved : goal.loop-rank-preserved
loop-rank-preserved c =
    elim c.if-may_work.branch [
      | then-may_work+in_ok-push w ↦ filter-kept (is_ready c.args.plan.now.net.nodes c.args.stands.now) c.args.plan.now.order c.loop-rank.rank c.get-number.result.now c.loop-rank.ready.items _ c.get-number.ensures (sym c.may_work.ensures ∙ w.if-may_work.true) (ap (λ v. v.items) w.ready-is ∙ w.in_ok-push.ensures.items) c.loop-rank.invariant
      | else-may_work w ↦ ap (λ v. v.items) w.ready-is ∙ filter-left (is_ready c.args.plan.now.net.nodes c.args.stands.now) c.args.plan.now.order c.loop-rank.rank c.get-number.result.now c.loop-rank.ready.items c.get-number.ensures (sym c.may_work.ensures ∙ w.if-may_work.false) c.loop-rank.invariant
    ]

pub returns : goal.returns
returns c =
    let len = c.len-rank-end.ensures in
    c.loop-rank.invariant ∙ ap (filter (is_ready c.args.plan.now.net.nodes c.args.stands.now)) (take-all c.args.plan.now.order c.loop-rank.rank (omega arith))
