use Rattle.std.proofs.Common.{◌≡◌, ◌∙◌, refl, arith, ◌-◌, ◌+◌, append-nil}
use Rattle.mq_model.proofs.ReadFacts.{rising_no, rising_none, rising_yes, rising_zero, with_front_twice, words_end, words_first}
use Rattle.mq_model.proofs.route.add_thresholds.Goals as goal

pub returns-in_default : goal.returns-in_default
returns-in_default c =
    c.loop-count.invariant ∙ rw (rising_none (6 - c.loop-count.count) c.loop-count.last _ (words_end c.loop-count.words.now c.in_default.len_below), append-nil c.loop-count.cuts) refl

pub returns-in_default-number_above : goal.returns-in_default-number_above
returns-in_default-number_above c =
    c.loop-count.invariant ∙ rw (rising_no (6 - c.loop-count.count) c.loop-count.last _ _ _ (words_first c.loop-count.words.now c.in-len1-up.len_at_least) c.in_default-number_above.ensures, append-nil c.loop-count.cuts) refl

pub loop-count-preserved : goal.loop-count-preserved
loop-count-preserved c =
    let step = rising_yes (6 - c.loop-count.count) c.loop-count.last _ _ _ (omega arith) (words_first c.loop-count.words.now c.in-len1-up.len_at_least) c.in-Some.ensures.0 in
    let less : 6 - c.loop-count.count - 1 ≡ 6 - (c.loop-count.count + 1) = omega arith in
    c.loop-count.invariant ∙ rw (step, less, with_front_twice, c.in_ok-push.ensures.ok, c.in-Some.ensures.1) refl

pub returns : goal.returns
returns c =
    let none : 6 - c.loop-count.count ≡ 0 = omega arith in
    c.loop-count.invariant ∙ rw (none, rising_zero, append-nil c.loop-count.cuts) refl
