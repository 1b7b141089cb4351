use Rattle.std.proofs.Common.{◌≡◌, ◌∙◌, ◌+◌, ◌-◌, ◌++◌, sym, ap, arith, append_assoc}
use Rattle.std.specs.Prelude.{map}
use Rattle.std.specs.List.{flat_map}
use Rattle.mq_gen.specs.Made.{fields_of, next_record, record_text, records_after}
use Rattle.mq_gen.proofs.TraceText.{none_left, text_left}
use Rattle.mq_gen.proofs.trace.made_records.Goals as goal

pub loop-preserved : goal.loop-preserved
loop-preserved c =
    let left = c.draw-count.result + 20000 - c.loop.counter in
    let next = text_left left c.loop.last c.loop.generator (omega arith) in
    let fewer : c.draw-count.result + 20000 - (c.loop.counter + 1) ≡ left - 1 = omega arith in
    let one = c.in_ok-last.ensures in
    let drawn = next_record c.loop.last c.loop.generator in
    let text = append_assoc c.loop.text.items (record_text (fields_of drawn.0)) (flat_map record_text (map fields_of (records_after (left - 1) drawn.0.time drawn.1))) in
    record {
      text = rw (fewer, one.text, one.moved, one.time) (text ∙ ap (λ more. c.loop.text.items ++ more) (sym next) ∙ c.loop.invariant.text);
      last = omega arith;
      within = omega arith;
      few = omega arith;
    }

pub returns : goal.returns
returns c =
    let left = c.draw-count.result + 20000 - c.loop.counter in
    c.from_vec.ensures ∙ sym (none_left c.loop.text.items left c.loop.last c.loop.generator (omega arith)) ∙ c.loop.invariant.text
