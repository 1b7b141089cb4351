use Rattle.std.proofs.Common.{◌≡◌, ◌∙◌, [], get_or, sym}
use Rattle.std.proofs.lemmas.List.{get_or_read}
use Rattle.mq_sweep.proofs.Texts.{done_more, text_more}
use Rattle.mq_sweep.proofs.text.scenarios_of.Goals as goal

pub models-preserved : goal.models-preserved
models-preserved g c =
    let here : get_or c.args.models.now c.models.number [] ≡ c.as_slice.result.now =
    sym (c.as_slice.ensures ∙ get_or_read c.args.models.now c.models.number c.index-models-number.result c.models-test.true c.index-models-number.is []) in
    record {
      text = text_more c.args.trace.now c.args.models.now c.models.number c.as_slice.result.now c.models-test.true here c.models.text.items c.add_scenario.new.text.items c.models.invariant.text c.in_ok-status.ensures.text;
      done = done_more c.args.trace.now c.args.models.now c.models.number c.as_slice.result.now c.models-test.true here c.models.done c.is_done-done.result c.in_ok-status.status c.models.invariant.done c.is_done-done.ensures c.in_ok-status.ensures.status;
    }
