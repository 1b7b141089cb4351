use Rattle.std.proofs.lemmas.Result.{IfOk-weaker}
use Rattle.mq_kinds.specs.ForkJoins.{IsForkJoin, forkjoin_steps}
use Rattle.mq_kinds.specs.Lefts.{IsLeft}
use Rattle.mq_kinds.specs.Pieces.{IsNext}
use Rattle.mq_kinds.specs.Table.{IsServing, serving_steps}
use Rattle.mq_kinds.specs.Tandems.{IsTandem, tandem_steps}
use Rattle.mq_kinds.specs.declared.table.Serving.TheVariants.{ForkJoin, Tandem}
use Rattle.mq_kinds.proofs.Wholes.{forkjoin-steps-on, tandem-steps-on, whole-ends}
use Rattle.mq_kinds.proofs.table.serving_next.Goals as goal

pub returns-in-Whole : goal.returns-in-Whole
returns-in-Whole g c = whole-ends c.args.load.now.rows.now c.args.load.now.kind.now c.args.load.now.arrivals.now c.args.serving.now c.args.made c.only_content.result c.requires.made c.only_content.ensures c.in-Whole.is

pub returns-in-Tandem : goal.returns-in-Tandem
returns-in-Tandem g c =
    let load = c.args.load.now in
    let old = c.in-Tandem.tandem in
    let new = c.tandem_next.new.tandem in
    IfOk-weaker c.tandem_next.result (IsNext (IsTandem load.rows.now load.kind.now load.arrivals.now) tandem_steps (IsLeft load.rows.now load.kind.now load.arrivals.now) old new)
    (IsNext (IsServing load.rows.now load.kind.now load.arrivals.now) serving_steps (IsLeft load.rows.now load.kind.now load.arrivals.now) c.args.serving.now (Tandem new))
    (λ end h. tandem-steps-on load.rows.now load.kind.now load.arrivals.now c.args.serving.now old new end c.in-Tandem.is h) c.tandem_next.ensures

pub returns-in-ForkJoin : goal.returns-in-ForkJoin
returns-in-ForkJoin g c =
    let load = c.args.load.now in
    let old = c.in-ForkJoin.work in
    let new = c.forkjoin_next.new.work in
    IfOk-weaker c.forkjoin_next.result (IsNext (IsForkJoin load.rows.now load.kind.now load.arrivals.now) forkjoin_steps (IsLeft load.rows.now load.kind.now load.arrivals.now) old new)
    (IsNext (IsServing load.rows.now load.kind.now load.arrivals.now) serving_steps (IsLeft load.rows.now load.kind.now load.arrivals.now) c.args.serving.now (ForkJoin new))
    (λ end h. forkjoin-steps-on load.rows.now load.kind.now load.arrivals.now c.args.serving.now old new end c.in-ForkJoin.is h) c.forkjoin_next.ensures
