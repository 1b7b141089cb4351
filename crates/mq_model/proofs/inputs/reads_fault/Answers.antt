use Rattle.std.proofs.Common.{sym, ◌∙◌}
use Rattle.mq_model.proofs.InputFacts.{fine_input, taken_input, unknown_input}
use Rattle.mq_model.proofs.inputs.reads_fault.Goals as goal

pub returns-then-not-is_given : goal.returns-then-not-is_given
returns-then-not-is_given c = λ more. c.loop-port.invariant more ∙ unknown_input c.args.saids.now c.args.before.now c.args.reads.now c.args.line c.loop-port.port c.index-reads-port.result more c.loop-port-test.true c.index-reads-port.is (sym c.if-not-is_given.ensures)

pub returns-then-is_taken : goal.returns-then-is_taken
returns-then-is_taken c = λ more. c.loop-port.invariant more
    ∙ taken_input c.args.saids.now c.args.before.now c.args.reads.now c.args.line c.loop-port.port c.index-reads-port.result more c.loop-port-test.true c.index-reads-port.is (sym c.if-not-is_given.ensures) (sym c.if-is_taken.ensures)

pub loop-port-preserved : goal.loop-port-preserved
loop-port-preserved c = λ more. c.loop-port.invariant more
    ∙ fine_input c.args.saids.now c.args.before.now c.args.reads.now c.args.line c.loop-port.port c.index-reads-port.result more c.loop-port-test.true c.index-reads-port.is (sym c.if-not-is_given.ensures) (sym c.if-is_taken.ensures)
