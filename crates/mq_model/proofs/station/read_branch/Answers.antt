use Rattle.std.proofs.Common.{◌∙◌, refl, rules}
use Rattle.std.proofs.lemmas.Result.{err_from_is_err_and}
use Rattle.mq_model.specs.Form.{read, up_to}
use Rattle.mq_model.specs.Lines.{demand_of, is_demand}
use Rattle.mq_base.specs.Text.{texts}
use Rattle.mq_model.proofs.BranchFacts.{branch_by, most_of}
use Rattle.mq_model.proofs.ReadFacts.{front_of_none, none_is_fault, some_are, stops_behind}
use Rattle.mq_model.proofs.station.read_branch.Goals as goal

pub returns-in_err-add_demands-clause-reads : goal.returns-in_err-add_demands-clause-reads
returns-in_err-add_demands-clause-reads c =
    let p = err_from_is_err_and c.from_residual.result c.from_residual.ensures.1 in
    rw (p.1, p.2) (stops_behind (Unit {0}) c.in_err-add_demands.field-0.0 _ _ _ (read (up_to c.min.result is_demand demand_of) (texts c.args.words.now.now)) _ c.in_err-add_demands.ensures.reads
    (λ l e. branch_by c.args.left c.min.result _ (c.min.ensures ∙ most_of c.args.left c.requires) ∙ rw e refl))

pub returns-then-is_empty-clause-reads : goal.returns-then-is_empty-clause-reads
returns-then-is_empty-clause-reads c =
    branch_by c.args.left c.min.result _ (c.min.ensures ∙ most_of c.args.left c.requires) ∙ none_is_fault _ _ _ (front_of_none _ ∙ (rw c.new-demands.ensures at c.in_ok-add_demands.ensures.reads)) (search rules)

pub returns-clause-reads : goal.returns-clause-reads
returns-clause-reads c =
    branch_by c.args.left c.min.result _ (c.min.ensures ∙ most_of c.args.left c.requires) ∙ some_are _ _ _ (front_of_none _ ∙ (rw c.new-demands.ensures at c.in_ok-add_demands.ensures.reads)) c.if-is_empty.ensures.1
