use Rattle.std.proofs.Common.{◌∙◌, refl, arith}
use Rattle.std.proofs.lemmas.Result.{err_from_is_err_and}
use Rattle.mq_model.specs.Form.{read}
use Rattle.mq_model.specs.Lines.{inputs}
use Rattle.mq_base.specs.Text.{texts}
use Rattle.mq_model.proofs.ReadFacts.{few_is_fault, joined_by, several_are, stops}
use Rattle.mq_model.proofs.parts.read_joined_inputs.Goals as goal

pub returns-in_err-reads : goal.returns-in_err-reads
returns-in_err-reads c =
    let p = err_from_is_err_and c.from_residual.result c.from_residual.ensures.1 in
    rw (p.1, p.2) (stops c.in_err-reads.field-0.0 _ (read inputs (texts c.args.words.now.now)) _ c.in_err-reads.ensures (λ l e. joined_by _ ∙ rw e refl))

pub returns-then-len-lt2 : goal.returns-then-len-lt2
returns-then-len-lt2 c = joined_by _ ∙ few_is_fault _ _ _ c.in_ok-reads.ensures (omega (arith, c.len.ensures))

pub returns : goal.returns
returns c = joined_by _ ∙ several_are _ _ _ c.in_ok-reads.ensures (omega (arith, c.len.ensures))
