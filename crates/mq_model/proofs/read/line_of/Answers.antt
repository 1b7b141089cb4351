use Rattle.std.proofs.Common.{sym, ◌∙◌, refl, get_or}
use Rattle.mq_model.proofs.InputFacts.{line_later, line_of_none}
use Rattle.mq_model.proofs.read.line_of.Goals as goal

pub loop-at-preserved-then-not-is_node : goal.loop-at-preserved-then-not-is_node
loop-at-preserved-then-not-is_node c = c.loop-at.invariant
    ∙ line_of_none c.args.saids.now c.args.lines.now c.loop-at.at (get_or c.args.lines.now c.loop-at.at 0) c.loop-at.left c.index-saids-at.result c.loop-at-test.true c.requires c.index-saids-at.is refl (sym c.if-not-is_node.ensures)

pub loop-at-preserved : goal.loop-at-preserved
loop-at-preserved c = c.loop-at.invariant
    ∙ line_later c.args.saids.now c.args.lines.now c.loop-at.at (get_or c.args.lines.now c.loop-at.at 0) c.loop-at.left c.index-saids-at.result c.loop-at-test.true c.requires c.index-saids-at.is refl (sym c.if-not-is_node.ensures) c.if-left-eq0.false
