use Rattle.std.proofs.lemmas.Result.{err_from_is_err_and}
use Rattle.mq_model.specs.Form.{one, read}
use Rattle.mq_model.specs.Lines.{is_from_to, value_of}
use Rattle.mq_base.specs.Text.{texts}
use Rattle.mq_model.proofs.ReadFacts.{fork_fault, fork_is, stops}
use Rattle.mq_model.proofs.line.read_fork.Goals as goal

pub returns-in_err-outputs : goal.returns-in_err-outputs
returns-in_err-outputs c =
    let p = err_from_is_err_and c.from_residual.result c.from_residual.ensures.1 in
    rw (p.1, p.2) (stops c.in_err-outputs.field-0.0 _ (read (one (is_from_to 2 4) value_of) (texts c.args.words.now.now)) _ c.in_err-outputs.ensures.reads (λ l e. fork_fault _ l e))

pub returns : goal.returns
returns c = fork_is _ _ _ c.in_ok-outputs.ensures.reads
