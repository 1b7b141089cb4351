use Rattle.std.proofs.Common.{refl}
use Rattle.std.proofs.lemmas.Result.{err_from_is_err_and}
use Rattle.mq_model.specs.Form.{one, read}
use Rattle.mq_model.specs.Lines.{counted_route, is_from_to, value_of}
use Rattle.mq_base.specs.Text.{texts}
use Rattle.mq_model.proofs.FormFacts.{read_then}
use Rattle.mq_model.proofs.ReadFacts.{stops}
use Rattle.mq_model.proofs.route.read_counted.Goals as goal

pub returns-in_err-outputs : goal.returns-in_err-outputs
unfolding counted_route read
returns-in_err-outputs c =
    let p = err_from_is_err_and c.from_residual.result c.from_residual.ensures.1 in
    rw (p.1, p.2) (stops c.in_err-outputs.field-0.0 _ (read (one (is_from_to 2 8) value_of) (texts c.args.words.now.now)) _ c.in_err-outputs.ensures.reads (λ l e. rw (read_then, e) refl))

pub returns : goal.returns
unfolding counted_route
returns c = rw (read_then, c.in_ok-outputs.ensures.reads) c.read_way.ensures
