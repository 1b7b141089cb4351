use Rattle.std.proofs.Common.{◌≡◌, ◌-◌, ◌≤◌, ap, arith}
use Rattle.mq_outside.proofs.lemmas.Gathers.{gathers_added, gathers_all, gathers_refused}
use Rattle.mq_core.specs.Sound.{outputs_in}
use Rattle.mq_core.specs.StandardTable.{run_of}
use Rattle.mq_report.specs.Text.{exit_lines}
use Rattle.mq_report.proofs.Loops.{gathers_begun, outputs-next, no_outputs}
use Rattle.mq_report.proofs.sections.add_exits_at.Goals as goal

pub loop-output-preserved : goal.loop-output-preserved
loop-output-preserved g c =
    gathers_added _ (outputs-next c.args.plan.now.net.nodes c.args.rows.now c.args.node c.args.declared.now.name ((run_of c.args.plan.now c.args.rows.now).stations c.args.node) c.loop-output.output c.outputs_of-output-end.result (c.loop-output-test.true)) c.loop-output.invariant c.in_ok-add_exit_at.ensures

pub returns-in_err-add_exit_at : goal.returns-in_err-add_exit_at
returns-in_err-add_exit_at g c =
    gathers_refused _ c.from_residual.ensures.0 _ (outputs-next c.args.plan.now.net.nodes c.args.rows.now c.args.node c.args.declared.now.name ((run_of c.args.plan.now c.args.rows.now).stations c.args.node) c.loop-output.output c.outputs_of-output-end.result (c.loop-output-test.true)) c.loop-output.invariant c.in_err-add_exit_at.ensures

pub outputs_of-output-end-requires : goal.outputs_of-output-end-requires
outputs_of-output-end-requires g c = (c.nodes_are_in_limits.ensures c.args.plan.now c.args.node c.args.declared.now c.requires.there).outputs

pub returns : goal.returns
returns g c =
    let over : c.outputs_of-output-end.result ≤ c.loop-output.output = omega arith in
    gathers_all (no_outputs c.args.plan.now.net.nodes c.args.rows.now c.args.node c.args.declared.now.name ((run_of c.args.plan.now c.args.rows.now).stations c.args.node) c.loop-output.output c.outputs_of-output-end.result over) c.loop-output.invariant

pub loop-output-init : goal.loop-output-init
loop-output-init g c =
    let all : outputs_in c.args.declared.now.kind ≡ c.outputs_of-output-end.result - 0 = omega arith in
    gathers_begun _ _ _ _ _ _ (ap (exit_lines c.args.plan.now.net.nodes c.args.rows.now c.args.node c.args.declared.now.name ((run_of c.args.plan.now c.args.rows.now).stations c.args.node) 0) all)
