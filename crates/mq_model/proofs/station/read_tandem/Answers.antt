use Rattle.std.proofs.Common.{refl, arith}
use Rattle.std.proofs.lemmas.Result.{err_from_is_err_and}
use Rattle.mq_base.specs.Text.{texts}
use Rattle.mq_model.specs.Form.{read}
use Rattle.mq_model.specs.Lines.{a_demand, stages, tandem_kind}
use Rattle.mq_model.proofs.FormFacts.{read_then}
use Rattle.mq_model.proofs.ReadFacts.{lone, several, stops, stops_behind}
use Rattle.mq_model.proofs.StageFacts.{behind_by}
use Rattle.mq_model.proofs.station.read_tandem.Goals as goal

pub returns-in_err-first : goal.returns-in_err-first
unfolding tandem_kind read
returns-in_err-first c =
    let p = err_from_is_err_and c.from_residual.result c.from_residual.ensures.1 in
    rw (p.1, p.2) (stops c.in_err-first.field-0.0 _ (read a_demand (texts c.args.words.now.now)) _ c.in_err-first.ensures (λ l e. rw (read_then, e) refl))

pub returns-in_err-add_stages : goal.returns-in_err-add_stages
unfolding tandem_kind read
returns-in_err-add_stages c =
    let p = err_from_is_err_and c.from_residual-in_err-add_stages.result c.from_residual-in_err-add_stages.ensures.1 in
    rw (p.1, p.2) (stops_behind (Unit {0}) c.in_err-add_stages.field-0.0 _ _ _ (read (stages 3) (texts c.read_demand.new.words.now)) _ c.in_err-add_stages.ensures
    (λ l e. rw (read_then, c.in_ok-first.ensures, read_then, behind_by c.in_ok-first.first (texts c.read_demand.new.words.now), e) refl))

pub returns-then-len-lt2 : goal.returns-then-len-lt2
unfolding tandem_kind read
returns-then-len-lt2 c =
    let k = lone _ _ _ _ (rw (c.in_ok-push.ensures.ok, c.new-stages.ensures) at c.in_ok-add_stages.ensures) (omega (arith, c.len.ensures)) in
    rw (read_then, c.in_ok-first.ensures, read_then, behind_by c.in_ok-first.first (texts c.read_demand.new.words.now), k) refl

pub returns : goal.returns
unfolding tandem_kind read
returns c =
    let k = several _ _ _ _ (rw (c.in_ok-push.ensures.ok, c.new-stages.ensures) at c.in_ok-add_stages.ensures) (omega (arith, c.len.ensures)) in
    rw (read_then, c.in_ok-first.ensures, read_then, behind_by c.in_ok-first.first (texts c.read_demand.new.words.now), k) refl
