use Rattle.std.proofs.Common.{◌≡◌, ap, rules, tests}
use Rattle.mq_core.specs.Results.{Totals, totals_of}
use Rattle.mq_core.specs.StandardTable.{run_of}
use Rattle.mq_report.specs.Text.{tells_held}
use Rattle.mq_report.proofs.sections.add_node_at.Goals as goal

pub add_node-requires-clause-servers : goal.add_node-requires-clause-servers
add_node-requires-clause-servers g c = (c.nodes_are_in_limits.ensures c.args.plan.now c.args.node c.args.declared.now c.requires.there).servers

pub returns : goal.returns
returns g c =
    let tells : c.if-plan-eq2.add_node ≡ tells_held c.args.plan.now.net.version c.args.form = search (tests, rules) in
    let busy : c.totals_at-own.result.busy ≡ (totals_of c.args.rows.now c.args.declared.now.kind ((run_of c.args.plan.now c.args.rows.now).stations c.args.node)).busy = ap (λ (t : Totals). t.busy) c.totals_at-own.ensures.totals in
    rw (tells, c.as_slice.ensures, c.totals_at-own.ensures.totals, busy, c.told_tail-tail.ensures, c.requires.counts.span) at c.add_node.ensures
