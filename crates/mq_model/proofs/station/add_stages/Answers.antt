use Rattle.std.proofs.Common.{sym, ◌≡◌, ◌∙◌, ◌-◌, ◌+◌, refl, arith, append-nil, drop, length, take}
use Rattle.std.proofs.lemmas.Result.{err_from_is_err_and}
use Rattle.mq_model.specs.Form.{read}
use Rattle.mq_model.specs.Lines.{a_stage, stages}
use Rattle.mq_base.specs.Text.{texts}
use Rattle.mq_model.proofs.ReadFacts.{front_fault, stops_more, with_front_twice, words_end, words_first}
use Rattle.mq_model.proofs.StageFacts.{stages_fault, stages_no, stages_none, stages_yes, stages_zero}
use Rattle.mq_model.proofs.station.add_stages.Goals as goal

pub returns-in_default : goal.returns-in_default
returns-in_default c = c.loop-count.invariant ∙ rw (stages_none (3 - c.loop-count.count) _ (words_end c.loop-count.words.now c.in_default.len_below), append-nil c.loop-count.stages) refl

pub returns-then-not-is_key : goal.returns-then-not-is_key
returns-then-not-is_key c =
    c.loop-count.invariant ∙ rw (stages_no (3 - c.loop-count.count) _ _ _ (words_first c.loop-count.words.now c.in-len1-up.len_at_least) (sym c.if-not-is_key.ensures), append-nil c.loop-count.stages) refl

pub returns-in_err-stage : goal.returns-in_err-stage
returns-in_err-stage c =
    let p = err_from_is_err_and c.from_residual.result c.from_residual.ensures.1 in
    rw (p.1, p.2) (stops_more (Unit {0}) c.in_err-stage.field-0.0 _ (read a_stage (texts (take (length c.loop-count.words.now - 1) (drop 1 c.loop-count.words.now)))) _ _ _ c.in_err-stage.ensures
    (λ l e. front_fault c.args.stages.now (read (stages 3) (texts c.args.words.now.now)) l
    (c.loop-count.invariant ∙ rw (stages_fault (3 - c.loop-count.count) _ _ l _ (omega arith) (words_first c.loop-count.words.now c.in-len1-up.len_at_least) (sym c.if-not-is_key.ensures) e) refl)))

pub loop-count-preserved : goal.loop-count-preserved
loop-count-preserved c =
    let step = stages_yes (3 - c.loop-count.count) _ _ _ _ c.in_ok-stage.stage (omega arith) (words_first c.loop-count.words.now c.in-len1-up.len_at_least) (sym c.if-not-is_key.ensures) c.in_ok-stage.ensures in
    let less : 3 - c.loop-count.count - 1 ≡ 3 - (c.loop-count.count + 1) = omega arith in
    c.loop-count.invariant ∙ rw (step, less, with_front_twice, c.in_ok-push.ensures.ok) refl

pub returns : goal.returns
returns c =
    let none : 3 - c.loop-count.count ≡ 0 = omega arith in
    c.loop-count.invariant ∙ rw (none, stages_zero, append-nil c.loop-count.stages) refl
