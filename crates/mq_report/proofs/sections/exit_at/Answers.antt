use Rattle.std.proofs.Common.{ℕ, ◌<◌, ◌∙◌, subst, sym}
use Rattle.std.proofs.lemmas.Option.{slice_get_within}
use Rattle.mq_core.specs.Sound.{outputs_in}
use Rattle.mq_core.specs.StandardTable.{run_of}
use Rattle.mq_report.proofs.sections.exit_at.Goals as goal

pub get-requires : goal.get-requires
get-requires c = subst (λ (n : ℕ). c.args.node < n) (sym c.requires.counts.1.nodes.len) (slice_get_within c.args.plan.now.net.nodes c.args.node c.args.declared.now c.requires.there)

pub get-requires-2 : goal.get-requires-2
get-requires-2 c =
    let own = c.requires.counts.1.nodes.each c.args.node c.args.declared.now c.get.result.now c.requires.there c.get.ensures in
    let streams = c.outputs_have_streams.ensures (run_of c.args.plan.now c.args.rows.now) c.args.node (outputs_in c.args.declared.now.kind) c.args.output c.requires.output in
    subst (λ (n : ℕ). c.args.output < n) (sym own.exits.len) (slice_get_within _ c.args.output _ streams)

pub returns : goal.returns
returns c =
    let own = c.requires.counts.1.nodes.each c.args.node c.args.declared.now c.get.result.now c.requires.there c.get.ensures in
    let streams = c.outputs_have_streams.ensures (run_of c.args.plan.now c.args.rows.now) c.args.node (outputs_in c.args.declared.now.kind) c.args.output c.requires.output in
    own.exits.each c.args.output _ c.get-2.result.now streams c.get-2.ensures c.requires.free ∙ sym (c.exits_are_streams.ensures c.args.rows.now ((run_of c.args.plan.now c.args.rows.now).stations c.args.node) c.args.output)
