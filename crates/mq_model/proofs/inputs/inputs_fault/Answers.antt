use Rattle.std.proofs.Common.{sym, ◌∙◌, refl, get_or}
use Rattle.mq_model.proofs.InputFacts.{line_faulty, line_fine, lines_fine, narrow_at}
use Rattle.mq_model.proofs.inputs.inputs_fault.Goals as goal

pub reads_fault-requires : goal.reads_fault-requires
reads_fault-requires c = rw c.reads_of.ensures (narrow_at c.args.saids.now c.loop-at.at c.index-saids-at.result _ c.requires.narrow c.loop-at-test.true c.index-saids-at.is)

pub returns-in-Some : goal.returns-in-Some
returns-in-Some c = sym (c.loop-at.invariant
    ∙ line_faulty c.args.saids.now c.args.lines.now c.loop-at.at (get_or c.args.lines.now c.loop-at.at 0) c.index-saids-at.result c.in-Some.fault c.loop-at-test.true c.requires.beside c.index-saids-at.is refl (rw c.reads_of.ensures at c.in-Some.ensures))

pub loop-at-preserved : goal.loop-at-preserved
loop-at-preserved c = c.loop-at.invariant
    ∙ line_fine c.args.saids.now c.args.lines.now c.loop-at.at (get_or c.args.lines.now c.loop-at.at 0) c.index-saids-at.result c.loop-at-test.true c.requires.beside c.index-saids-at.is refl (rw c.reads_of.ensures at c.in_default.ensures)

pub returns : goal.returns
returns c = sym (c.loop-at.invariant ∙ lines_fine c.args.saids.now c.args.lines.now _ c.loop-at.at c.loop-at-test.false)
