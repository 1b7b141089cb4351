use Rattle.std.proofs.Common.{sym, ◌≡◌, ◌∙◌, refl, arith, ◌-◌, ◌+◌, append-nil}
use Rattle.mq_model.specs.Lines.{input_of, is_input}
use Rattle.mq_model.proofs.ReadFacts.{up_to_no, up_to_none, up_to_yes, up_to_zero, with_front_twice, words_end, words_first}
use Rattle.mq_model.proofs.parts.add_inputs.Goals as goal

pub returns-in_default : goal.returns-in_default
returns-in_default c =
    c.loop-count.invariant ∙ rw (up_to_none (8 - c.loop-count.count) is_input input_of _ (words_end c.loop-count.words.now c.in_default.len_below), append-nil c.loop-count.reads) refl

pub returns-then-not-is_input : goal.returns-then-not-is_input
returns-then-not-is_input c =
    c.loop-count.invariant ∙ rw (up_to_no (8 - c.loop-count.count) is_input input_of _ _ _ (words_first c.loop-count.words.now c.in-len1-up.len_at_least) (sym c.if-not-is_input.ensures), append-nil c.loop-count.reads) refl

pub loop-count-preserved : goal.loop-count-preserved
loop-count-preserved c =
    let step = up_to_yes (8 - c.loop-count.count) is_input input_of _ _ _ (omega arith) (words_first c.loop-count.words.now c.in-len1-up.len_at_least) (sym c.if-not-is_input.ensures) in
    let less : 8 - c.loop-count.count - 1 ≡ 8 - (c.loop-count.count + 1) = omega arith in
    c.loop-count.invariant ∙ rw (step, less, with_front_twice, c.in_ok-push.ensures.ok, c.in_ok-input_said.ensures (sym c.if-not-is_input.ensures)) refl

pub returns : goal.returns
returns c =
    let none : 8 - c.loop-count.count ≡ 0 = omega arith in
    c.loop-count.invariant ∙ rw (none, up_to_zero, append-nil c.loop-count.reads) refl
