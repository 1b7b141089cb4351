use Rattle.std.proofs.lemmas.Result.{err_from_is_err_and}
use Rattle.mq_model.specs.Form.{read}
use Rattle.mq_model.specs.Lines.{a_demand, a_route}
use Rattle.mq_base.specs.Text.{texts}
use Rattle.mq_model.proofs.ReadFacts.{stops, then_fault, then_stop}
use Rattle.mq_model.proofs.line.read_kind.Goals as goal

pub returns-in_err-read_demand-in-Server : goal.returns-in_err-read_demand-in-Server
returns-in_err-read_demand-in-Server c =
    let p = err_from_is_err_and c.from_residual.result c.from_residual.ensures.1 in
    rw (p.1, p.2) (stops c.in_err-read_demand-in-Server.field-0.0 _ (read a_demand (texts c.args.words.now.now)) _ c.in_err-read_demand-in-Server.ensures (λ l e. rw c.in-Server.is (then_fault a_demand _ _ l e)))

pub returns-in_ok-read_demand-in-Server : goal.returns-in_ok-read_demand-in-Server
returns-in_ok-read_demand-in-Server c = rw c.in-Server.is (then_stop a_demand _ _ _ _ c.in_ok-read_demand-in-Server.ensures)

pub returns-in_err-read_demand-in-Delay : goal.returns-in_err-read_demand-in-Delay
returns-in_err-read_demand-in-Delay c =
    let p = err_from_is_err_and c.from_residual-in_err-read_demand-in-Delay.result c.from_residual-in_err-read_demand-in-Delay.ensures.1 in
    rw (p.1, p.2) (stops c.in_err-read_demand-in-Delay.field-0.0 _ (read a_demand (texts c.args.words.now.now)) _ c.in_err-read_demand-in-Delay.ensures (λ l e. rw c.in-Delay.is (then_fault a_demand _ _ l e)))

pub returns-in_ok-read_demand-in-Delay : goal.returns-in_ok-read_demand-in-Delay
returns-in_ok-read_demand-in-Delay c = rw c.in-Delay.is (then_stop a_demand _ _ _ _ c.in_ok-read_demand-in-Delay.ensures)

pub returns-in_err-read_route-in-Split : goal.returns-in_err-read_route-in-Split
returns-in_err-read_route-in-Split c =
    let p = err_from_is_err_and c.from_residual-in_err-read_route-in-Split.result c.from_residual-in_err-read_route-in-Split.ensures.1 in
    rw (p.1, p.2) (stops c.in_err-read_route-in-Split.field-0.0 _ (read a_route (texts c.args.words.now.now)) _ c.in_err-read_route-in-Split.ensures (λ l e. rw c.in-Split.is (then_fault a_route _ _ l e)))

pub returns-in_ok-read_route-in-Split : goal.returns-in_ok-read_route-in-Split
returns-in_ok-read_route-in-Split c = rw c.in-Split.is (then_stop a_route _ _ _ _ c.in_ok-read_route-in-Split.ensures)
