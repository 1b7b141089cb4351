use Rattle.std.proofs.Common.{◌∙◌, ◌-◌, ◌<◌, length, refl, arith}
use Rattle.std.proofs.lemmas.Result.{err_from_is_err_and}
use Rattle.mq_model.specs.Form.{read}
use Rattle.mq_model.specs.Lines.{a_branch, all_branches, branches, forkjoin_kind}
use Rattle.mq_base.specs.Text.{texts}
use Rattle.mq_model.proofs.BranchFacts.{all_by, all_no_first}
use Rattle.mq_model.proofs.ReadFacts.{lone, several, stops, stops_behind, then_fault, then_stop}
use Rattle.mq_model.proofs.station.read_forkjoin.Goals as goal

pub returns-in_err-first : goal.returns-in_err-first
unfolding forkjoin_kind
returns-in_err-first c =
    let p = err_from_is_err_and c.from_residual.result c.from_residual.ensures.1 in
    rw (p.1, p.2) (stops c.in_err-first.field-0.0 _ (read (a_branch 8) (texts c.args.words.now.now)) _ c.in_err-first.ensures.reads (λ l e. then_fault all_branches _ _ l (all_no_first _ l e)))

pub returns-in_err-add_branches : goal.returns-in_err-add_branches
unfolding forkjoin_kind
returns-in_err-add_branches c =
    let p = err_from_is_err_and c.from_residual-in_err-add_branches.result c.from_residual-in_err-add_branches.ensures.1 in
    let few : length c.in_ok-first.first < 8 = omega (arith, c.in_ok-first.ensures.short) in
    rw (p.1, p.2) (stops_behind (Unit {0}) c.in_err-add_branches.field-0.0 _ _ _ (read (branches 7 (8 - c.len.result)) (texts c.read_branch.new.words.now)) _ c.in_err-add_branches.ensures
    (λ l e. then_fault all_branches _ _ l (all_by _ _ c.in_ok-first.first few c.in_ok-first.ensures.reads ∙ rw (rw c.len.ensures at e) refl)))

pub returns-then-len-lt2 : goal.returns-then-len-lt2
unfolding forkjoin_kind
returns-then-len-lt2 c =
    let few : length c.in_ok-first.first < 8 = omega (arith, c.in_ok-first.ensures.short) in
    then_fault all_branches _ _ _ (all_by _ _ c.in_ok-first.first few c.in_ok-first.ensures.reads ∙ lone _ _ _ _ (rw (c.len.ensures, c.in_ok-push.ensures.ok, c.new-branches.ensures) at c.in_ok-add_branches.ensures) (omega (arith, c.len.ensures)))

pub returns : goal.returns
unfolding forkjoin_kind
returns c =
    let few : length c.in_ok-first.first < 8 = omega (arith, c.in_ok-first.ensures.short) in
    then_stop all_branches _ _ _ _ (all_by _ _ c.in_ok-first.first few c.in_ok-first.ensures.reads ∙ several _ _ _ _ (rw (c.len.ensures, c.in_ok-push.ensures.ok, c.new-branches.ensures) at c.in_ok-add_branches.ensures) (omega (arith, c.len.ensures)))
