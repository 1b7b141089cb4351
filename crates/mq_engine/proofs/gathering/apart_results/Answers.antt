use Rattle.std.proofs.Common.{arith}
use Rattle.std.proofs.lemmas.Result.{IfOk-weaker}
use Rattle.mq_exits.specs.Results.{IsResultOf}
use Rattle.mq_engine.proofs.Gathers.{each-found}
use Rattle.mq_engine.proofs.gathering.apart_results.Goals as goal

pub returns-clause-len : goal.returns-clause-len
returns-clause-len g c = IfOk-weaker c.made.result _ _ (λ results all. all.len) c.made.ensures

pub returns-clause-known : goal.returns-clause-known
returns-clause-known g c =
    let s = c.args.arriving.now in
    IfOk-weaker c.made.result _ _ (λ results all. each-found (IsResultOf s.plan.now s.rows.now s.ready.now) results (λ b d l. all.each b d (let e = all.len in omega arith))) c.made.ensures
