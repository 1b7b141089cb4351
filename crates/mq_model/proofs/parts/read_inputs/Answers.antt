use Rattle.std.proofs.Common.{◌∙◌, ◌∷◌, [], refl, rules}
use Rattle.std.proofs.lemmas.Result.{err_from_is_err_and}
use Rattle.mq_model.specs.Form.{read, up_to}
use Rattle.mq_model.specs.Lines.{input_of, is_input, key}
use Rattle.mq_base.specs.Text.{texts}
use Rattle.mq_model.proofs.ReadFacts.{front_of_none, inputs_by, inputs_no_key, none_is_fault, some_are, stops, stops_behind}
use Rattle.mq_model.proofs.parts.read_inputs.Goals as goal

pub returns-in_err-read_key : goal.returns-in_err-read_key
returns-in_err-read_key c =
    let p = err_from_is_err_and c.from_residual.result c.from_residual.ensures.1 in
    rw (p.1, p.2) (stops c.in_err-read_key.field-0.0 _ (read (key (102 ∷ 114 ∷ 111 ∷ 109 ∷ [])) (texts c.args.words.now.now)) _ c.in_err-read_key.ensures (λ l e. inputs_no_key _ l e))

pub returns-in_err-add_inputs : goal.returns-in_err-add_inputs
returns-in_err-add_inputs c =
    let p = err_from_is_err_and c.from_residual-in_err-add_inputs.result c.from_residual-in_err-add_inputs.ensures.1 in
    rw (p.1, p.2) (stops_behind (Unit {0}) c.in_err-add_inputs.field-0.0 _ _ _ (read (up_to 8 is_input input_of) (texts c.read_key.new.words.now)) _ c.in_err-add_inputs.ensures
    (λ l e. inputs_by _ _ c.in_ok-read_key.ensures ∙ rw e refl))

pub returns-then-is_empty : goal.returns-then-is_empty
returns-then-is_empty c =
    inputs_by _ _ c.in_ok-read_key.ensures ∙ none_is_fault _ _ _ (front_of_none _ ∙ (rw c.new-reads.ensures at c.in_ok-add_inputs.ensures)) (search rules)

pub returns : goal.returns
returns c = inputs_by _ _ c.in_ok-read_key.ensures ∙ some_are _ _ _ (front_of_none _ ∙ (rw c.new-reads.ensures at c.in_ok-add_inputs.ensures)) c.if-is_empty.ensures.1
