use Rattle.std.proofs.Common.{sym, ◌≡◌, ◌∙◌, ◌-◌, ◌+◌, ◌<◌, refl, arith, append-nil, drop, length, take}
use Rattle.std.proofs.lemmas.Result.{err_from_is_err_and}
use Rattle.mq_model.specs.Form.{read}
use Rattle.mq_model.specs.Lines.{a_branch, branches}
use Rattle.mq_base.specs.Text.{texts}
use Rattle.mq_model.proofs.BranchFacts.{branches_fault, branches_full, branches_no, branches_none, branches_yes, branches_zero}
use Rattle.mq_model.proofs.ReadFacts.{front_fault, stops_more, with_front_twice, words_end, words_first}
use Rattle.mq_model.proofs.station.add_branches.Goals as goal

pub returns-then-left-eq0 : goal.returns-then-left-eq0
returns-then-left-eq0 c = c.loop-count.invariant ∙ rw (c.if-left-eq0.true, branches_full (7 - c.loop-count.count) _, append-nil c.loop-count.branches) refl

pub returns-in_default : goal.returns-in_default
returns-in_default c = c.loop-count.invariant ∙ rw (branches_none (7 - c.loop-count.count) c.loop-count.left _ (words_end c.loop-count.words.now c.in_default.len_below), append-nil c.loop-count.branches) refl

pub returns-then-not-is_key : goal.returns-then-not-is_key
returns-then-not-is_key c =
    c.loop-count.invariant ∙ rw (branches_no (7 - c.loop-count.count) c.loop-count.left _ _ _ (words_first c.loop-count.words.now c.in-len1-up.len_at_least) (sym c.if-not-is_key.ensures), append-nil c.loop-count.branches) refl

pub returns-in_err-demands : goal.returns-in_err-demands
returns-in_err-demands c =
    let p = err_from_is_err_and c.from_residual.result c.from_residual.ensures.1 in
    let room : 0 < c.loop-count.left = omega (arith, c.if-left-eq0.false) in
    rw (p.1, p.2) (stops_more (Unit {0}) c.in_err-demands.field-0.0 _ (read (a_branch c.loop-count.left) (texts (take (length c.loop-count.words.now - 1) (drop 1 c.loop-count.words.now)))) _ _ _ c.in_err-demands.ensures.reads
    (λ l e. front_fault c.args.branches.now (read (branches 7 c.args.left) (texts c.args.words.now.now)) l
    (c.loop-count.invariant ∙ rw (branches_fault (7 - c.loop-count.count) c.loop-count.left _ _ l _ (omega arith) room (words_first c.loop-count.words.now c.in-len1-up.len_at_least) (sym c.if-not-is_key.ensures) e) refl)))

pub loop-count-preserved : goal.loop-count-preserved
loop-count-preserved c =
    let room : 0 < c.loop-count.left = omega (arith, c.if-left-eq0.false) in
    let step = branches_yes (7 - c.loop-count.count) c.loop-count.left _ _ _ _ c.in_ok-demands.demands (omega arith) room (words_first c.loop-count.words.now c.in-len1-up.len_at_least) (sym c.if-not-is_key.ensures) c.in_ok-demands.ensures.reads in
    let less : 7 - c.loop-count.count - 1 ≡ 7 - (c.loop-count.count + 1) = omega arith in
    c.loop-count.invariant ∙ rw (step, less, with_front_twice, c.in_ok-push.ensures.ok, c.len.ensures) refl

pub returns : goal.returns
returns c =
    let none : 7 - c.loop-count.count ≡ 0 = omega arith in
    c.loop-count.invariant ∙ rw (none, branches_zero, append-nil c.loop-count.branches) refl
