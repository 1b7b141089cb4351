use Rattle.std.proofs.Common.{sym, ap, ◌∙◌}
use Rattle.mq_model.specs.Said.{columns_of, names_of}
use Rattle.mq_model.proofs.ReadModel.{kept, kept_beside, kept_fault, kept_narrow, planned, unfaulty, unplanned}
use Rattle.mq_model.proofs.read.read_model.Goals as goal

pub front_fault-requires-clause-beside : goal.front_fault-requires-clause-beside
front_fault-requires-clause-beside c =
    let k = kept c.args.bytes.now c.without_mark.result.now c.in_ok-front.front c.if-bytes-gt65536.false c.without_mark.ensures c.in_ok-front.ensures.ok in
    kept_beside c.args.bytes.now c.in_ok-front.front k

pub front_fault-requires-clause-narrow : goal.front_fault-requires-clause-narrow
front_fault-requires-clause-narrow c =
    let k = kept c.args.bytes.now c.without_mark.result.now c.in_ok-front.front c.if-bytes-gt65536.false c.without_mark.ensures c.in_ok-front.ensures.ok in
    kept_narrow c.args.bytes.now c.in_ok-front.front k

pub returns-in-Some-clause-err : goal.returns-in-Some-clause-err
returns-in-Some-clause-err c = λ h.
    let k = kept c.args.bytes.now c.without_mark.result.now c.in_ok-front.front c.if-bytes-gt65536.false c.without_mark.ensures c.in_ok-front.ensures.ok in
    kept_fault c.args.bytes.now c.in_ok-front.front c.in-Some.fault k c.in-Some.ensures

pub plan_of-plan-requires : goal.plan_of-plan-requires
plan_of-plan-requires c =
    let k = kept c.args.bytes.now c.without_mark.result.now c.in_ok-front.front c.if-bytes-gt65536.false c.without_mark.ensures c.in_ok-front.ensures.ok in
    let u = unfaulty c.args.bytes.now c.in_ok-front.front k c.in-None.ensures in
    record { names = k.is.names ∙ ap names_of (sym k.is.saids); columns = k.is.columns ∙ ap columns_of (sym k.is.saids); few = k.is.few_names; few_columns = k.is.few_columns; beside = u.beside; small = u.few; wired = u.wired; sound = u.sound }

pub returns-in-None-clause-ok : goal.returns-in-None-clause-ok
returns-in-None-clause-ok c =
    let k = kept c.args.bytes.now c.without_mark.result.now c.in_ok-front.front c.if-bytes-gt65536.false c.without_mark.ensures c.in_ok-front.ensures.ok in
    planned c.args.bytes.now c.in_ok-front.front _ (unfaulty c.args.bytes.now c.in_ok-front.front k c.in-None.ensures) c.plan_of-plan.ensures.ok

pub returns-in-None-clause-err : goal.returns-in-None-clause-err
returns-in-None-clause-err c =
    let k = kept c.args.bytes.now c.without_mark.result.now c.in_ok-front.front c.if-bytes-gt65536.false c.without_mark.ensures c.in_ok-front.ensures.ok in
    unplanned c.args.bytes.now c.in_ok-front.front _ (unfaulty c.args.bytes.now c.in_ok-front.front k c.in-None.ensures) c.plan_of-plan.ensures.err
