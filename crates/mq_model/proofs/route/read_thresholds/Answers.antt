use Rattle.std.proofs.Common.{◌∙◌, refl}
use Rattle.std.proofs.lemmas.Result.{err_from_is_err_and}
use Rattle.mq_model.specs.Form.{one, read}
use Rattle.mq_model.specs.Lines.{greatest_demand, is_from_to, rising, value_of}
use Rattle.mq_base.specs.Text.{texts}
use Rattle.mq_model.proofs.ReadFacts.{from_zero, stops, stops_behind, thresholds_fault, thresholds_first}
use Rattle.mq_model.proofs.route.read_thresholds.Goals as goal

pub returns-in_err-first : goal.returns-in_err-first
returns-in_err-first c =
    let p = err_from_is_err_and c.from_residual.result c.from_residual.ensures.1 in
    rw (p.1, p.2) (stops c.in_err-first.field-0.0 _ (read (one (is_from_to 0 greatest_demand) value_of) (texts c.args.words.now.now)) _ c.in_err-first.ensures.reads (λ l e. thresholds_fault _ l (from_zero greatest_demand value_of _ ∙ e)))

pub returns-in_err-add_thresholds : goal.returns-in_err-add_thresholds
returns-in_err-add_thresholds c =
    let p = err_from_is_err_and c.from_residual-in_err-add_thresholds.result c.from_residual-in_err-add_thresholds.ensures.1 in
    rw (p.1, p.2) (stops_behind (Unit {0}) c.in_err-add_thresholds.field-0.0 _ _ _ (read (rising 6 c.in_ok-first.first) (texts c.read_within.new.words.now)) _ c.in_err-add_thresholds.ensures
    (λ l e. thresholds_first _ _ _ (from_zero greatest_demand value_of _ ∙ c.in_ok-first.ensures.reads) ∙ rw e refl))

pub returns : goal.returns
returns c =
    thresholds_first _ _ _ (from_zero greatest_demand value_of _ ∙ c.in_ok-first.ensures.reads) ∙ (rw (c.in_ok-push.ensures.ok, c.new-cuts.ensures) at c.in_ok-add_thresholds.ensures)
