use Rattle.std.proofs.Common.{sym, ◌≡◌, ◌||◌, refl, true, false}
use Rattle.std.specs.List.{list_all}
use Rattle.std.proofs.lemmas.Result.{err_from_is_err_and}
use Rattle.mq_base.specs.Text.{words_of}
use Rattle.mq_model.specs.Head.{begins_comment}
use Rattle.mq_model.specs.Model.{is_allowed}
use Rattle.mq_model.specs.declared.front.Front.{Front}
use Rattle.mq_model.proofs.FrontFacts.{add_head, add_skipped, add_told, adds_told, byte_fault, head_fault, told_fault, words_faulty}
use Rattle.mq_model.proofs.front.add_line.Goals as goal

pub returns-then-begins_comment : goal.returns-then-begins_comment
returns-then-begins_comment c = λ before is number.
    add_skipped before c.args.line.now c.args.front.now is (sym (rw c.requires.words at c.if-begins_comment.ensures))

pub returns-then-not-all_allowed : goal.returns-then-not-all_allowed
returns-then-not-all_allowed c = λ before is number _.
    byte_fault before c.args.line.now c.args.number number (sym (rw c.requires.words at c.if-begins_comment.ensures)) (sym c.if-not-all_allowed.ensures)

pub returns-then-not-is_head : goal.returns-then-not-is_head
returns-then-not-is_head c = λ before is number _.
    head_fault before c.args.line.now c.args.number c.args.front.now is number (sym (rw c.requires.words at c.if-begins_comment.ensures)) (sym c.if-not-all_allowed.ensures) c.if-not-front.true (sym (rw c.requires.words at c.if-not-is_head.ensures))

pub returns-then-not-front : goal.returns-then-not-front
returns-then-not-front c = λ before is number.
    add_head before c.args.line.now c.args.front.now c.version_said-front.result is c.if-not-front.true (sym c.if-not-all_allowed.ensures) (sym (rw c.requires.words at c.if-not-is_head.ensures)) (rw c.requires.words at c.version_said-front.ensures)

pub returns-in_err-said : goal.returns-in_err-said
returns-in_err-said c = λ before is number.
    let p = err_from_is_err_and c.from_residual.result c.from_residual.ensures.1 in
    rw (p.1, p.2) (λ h. words_faulty before c.args.line.now c.args.number c.args.front.now _ is number (sym (rw c.requires.words at c.if-begins_comment.ensures)) (sym c.if-not-all_allowed.ensures) c.if-not-front.false
    (rw c.requires.words at (c.in_err-said.ensures.err h)))

pub returns : goal.returns
returns c = λ before is number.
    let unskipped : begins_comment (words_of c.args.line.now) ≡ false = sym (rw c.requires.words at c.if-begins_comment.ensures) in
    let old : Front = c.args.front.now in
    let mid : Front =
    record { has_head = old.has_head; version = old.version; has_bound = old.has_bound || c.begins_bound.result; saids = old.saids; lines = old.lines; names = old.names; columns = old.columns } in
    let allowed : list_all is_allowed c.args.line.now ≡ true = sym c.if-not-all_allowed.ensures in
    let said = rw c.requires.words at c.in_ok-said.ensures.ok in
    let fault = told_fault before c.args.line.now c.args.number old c.in_ok-said.said is number unskipped allowed c.if-not-front.false said.0 said.1 in
    adds_told before c.args.line.now c.args.number c.in_ok-said.said mid c.add_said.new.front c.add_said.result c.add_said.ensures.ok c.add_said.ensures.err fault
    (λ none. add_told before c.args.line.now c.args.number old c.in_ok-said.said mid.has_bound is number unskipped c.if-not-front.false said.1 none (rw (c.begins_bound.ensures, c.requires.words) refl))
