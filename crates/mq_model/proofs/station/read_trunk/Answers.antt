use Rattle.std.proofs.Common.{refl}
use Rattle.std.proofs.lemmas.Result.{err_from_is_err_and}
use Rattle.mq_model.specs.Form.{one, read}
use Rattle.mq_model.specs.Lines.{a_demand, is_from_to, trunk_kind, value_of}
use Rattle.mq_base.specs.Text.{texts}
use Rattle.mq_model.proofs.FormFacts.{read_then}
use Rattle.mq_model.proofs.ReadFacts.{stops}
use Rattle.mq_model.proofs.station.read_trunk.Goals as goal

pub returns-in_err-servers : goal.returns-in_err-servers
unfolding trunk_kind read
returns-in_err-servers c =
    let p = err_from_is_err_and c.from_residual.result c.from_residual.ensures.1 in
    rw (p.1, p.2) (stops c.in_err-servers.field-0.0 _ (read (one (is_from_to 1 255) value_of) (texts c.args.words.now.now)) _ c.in_err-servers.ensures.reads (λ l e. rw (read_then, e) refl))

pub returns-in_err-demand : goal.returns-in_err-demand
unfolding trunk_kind read
returns-in_err-demand c =
    let p = err_from_is_err_and c.from_residual-in_err-demand.result c.from_residual-in_err-demand.ensures.1 in
    rw (p.1, p.2) (stops c.in_err-demand.field-0.0 _ (read a_demand (texts c.read_within.new.words.now)) _ c.in_err-demand.ensures (λ l e. rw (read_then, c.in_ok-servers.ensures.reads, read_then, e) refl))

pub returns : goal.returns
unfolding trunk_kind read
returns c = rw (read_then, c.in_ok-servers.ensures.reads, read_then, c.in_ok-demand.ensures) refl
