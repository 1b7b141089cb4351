use Rattle.std.proofs.Common.{sym, ◌∙◌, ap}
use Rattle.std.proofs.lemmas.Option.{slice_get-get_or}
use Rattle.mq_engine.specs.Progress.{is_done, is_read, stands_at}
use Rattle.mq_engine.proofs.Lists.{all-fails, all-more}
use Rattle.mq_engine.proofs.progress.all_done.Goals as goal

pub returns-then-not-has_ended : goal.returns-then-not-has_ended
returns-then-not-has_ended c =
    let inside = c.requires c.loop-port.port c.get-input.result.now c.get-input.ensures in
    sym (all-fails (is_read c.args.stands.now) c.args.inputs.now c.loop-port.port c.get-input.result.now c.get-input.ensures (ap (stands_at is_done) (slice_get-get_or c.args.stands.now _ _ inside) ∙ (sym c.has_ended.ensures ∙ c.if-not-has_ended.true)))

pub loop-port-preserved : goal.loop-port-preserved
loop-port-preserved c =
    let inside = c.requires c.loop-port.port c.get-input.result.now c.get-input.ensures in
    all-more (is_read c.args.stands.now) c.args.inputs.now c.loop-port.port c.get-input.result.now c.get-input.ensures c.loop-port.invariant (ap (stands_at is_done) (slice_get-get_or c.args.stands.now _ _ inside) ∙ (sym c.has_ended.ensures ∙ c.if-not-has_ended.false))
