use Rattle.std.proofs.Common.{◌∙◌, ◌++◌, ap, arith, sym}
use Rattle.std.proofs.lemmas.List.{take_all}
use Rattle.mq_forkjoin.specs.Servers.{begins_of}
use Rattle.mq_redo.specs.Branches.{begins_with}
use Rattle.mq_redo.proofs.Begins.{begins-more}
use Rattle.mq_redo.proofs.forkjoins.branch_begins.Goals as goal

pub loop-at-preserved : goal.loop-at-preserved
loop-at-preserved c =
    c.in_ok-push_begins.ensures ∙ ((λ i. c.loop-at.invariant i ++ begins_with (c.len.ensures i)) ∙ sym (begins-more c.args.branches.now c.loop-at.at c.get.result.now c.get.ensures))

pub returns : goal.returns
returns c =
    let end = c.len-at-end.ensures in
    let last = c.loop-at-test.false in
    c.from_vec.ensures ∙ (c.loop-at.invariant ∙ ap begins_of (take_all c.loop-at.at c.args.branches.now (omega arith)))
