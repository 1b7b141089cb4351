use Rattle.std.proofs.Common.{◌≡◌, Some, ap, ◌∙◌, arith}
use Rattle.std.specs.Prelude.{slice_get}
use Rattle.std.proofs.lemmas.Option.{slice_get_within, slice_get-get_or}
use Rattle.mq_core.specs.declared.model.Input.{Input}
use Rattle.mq_kept.specs.declared.former.Former.TheVariants.{Same}
use Rattle.mq_kept.proofs.SameNodes.{ports-more}
use Rattle.mq_kept.proofs.nodes.reads_the_same.Goals as goal

pub loop-port-preserved : goal.loop-port-preserved
loop-port-preserved c = ports-more (λ (input : Input). slice_get c.args.past.now.formers.now input.node ≡ Some Same) c.args.node.now.inputs c.loop-port.port c.get.result.now c.loop-port.invariant c.get.ensures
    (slice_get-get_or c.args.past.now.formers.now c.get.result.now.node c.index-past-get.result (c.requires c.loop-port.port c.get.result.now c.get.ensures) ∙ ap Some c.in-Same.is)

pub returns-clause-same : goal.returns-clause-same
returns-clause-same c whole port input e =
    let inside = slice_get_within c.args.node.now.inputs port input e in
    let end = c.len-port-end.ensures in
    c.loop-port.invariant port input (omega arith) e
