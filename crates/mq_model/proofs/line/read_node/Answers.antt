use Rattle.std.proofs.Common.{refl}
use Rattle.std.proofs.lemmas.Result.{err_from_is_err_and}
use Rattle.mq_model.specs.Form.{read}
use Rattle.mq_model.specs.Lines.{a_name, inputs, node_line}
use Rattle.mq_base.specs.Text.{texts}
use Rattle.mq_model.specs.Reading.{form_of}
use Rattle.mq_model.proofs.FormFacts.{read_then}
use Rattle.mq_model.proofs.ReadFacts.{stops}
use Rattle.mq_model.proofs.line.read_node.Goals as goal

pub returns-in_err-name : goal.returns-in_err-name
unfolding node_line read
returns-in_err-name c =
    let p = err_from_is_err_and c.from_residual.result c.from_residual.ensures.1 in
    rw (p.1, p.2) (stops c.in_err-name.field-0.0 _ (read a_name (texts c.args.words.now.now)) _ c.in_err-name.ensures (λ l e. rw (read_then, e) refl))

pub returns-in_err-kind : goal.returns-in_err-kind
unfolding node_line read
returns-in_err-kind c =
    let p = err_from_is_err_and c.from_residual-in_err-kind.result c.from_residual-in_err-kind.ensures.1 in
    rw (p.1, p.2) (stops c.in_err-kind.field-0.0 _ (read (form_of c.args.first) (texts c.read_name.new.words.now)) _ c.in_err-kind.ensures
    (λ l e. rw (read_then, c.in_ok-name.ensures, read_then, e) refl))

pub returns-in-Ok : goal.returns-in-Ok
unfolding node_line read
returns-in-Ok c = rw (read_then, c.in_ok-name.ensures, read_then, c.in_ok-kind.ensures, read_then, c.in-Ok.ensures) refl

pub returns-in-Err : goal.returns-in-Err
unfolding node_line read
returns-in-Err c =
    stops c.in-Err.stop _ (read inputs (texts c.read_kind.new.words.now)) _ c.in-Err.ensures
    (λ l e. rw (read_then, c.in_ok-name.ensures, read_then, c.in_ok-kind.ensures, read_then, e) refl)
