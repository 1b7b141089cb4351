use Rattle.std.proofs.Common.{◌<◌, sym, subst}
use Rattle.std.proofs.lemmas.Option.{slice_get_within}
use Rattle.mq_kept.proofs.CameBefore.{before-few}
use Rattle.mq_kept.proofs.Ended.{changed-cause}
use Rattle.mq_kept.proofs.Unchanged.{apart-changed, apart-run}
use Rattle.mq_kept.proofs.nodes.apart_run.Goals as goal

pub reads_the_same-requires : goal.reads_the_same-requires
reads_the_same-requires g c port input e =
    let named = (c.core_laws.ensures.limits c.args.arriving.now.plan.now c.args.number c.get-node.result.now c.get-node.ensures).reads port input e in
    subst (λ n. input.node < n) (sym c.requires.formers) (slice_get_within c.args.arriving.now.plan.now.net.nodes input.node named.node named.there)

pub unchanged_run-requires-clause-few : goal.unchanged_run-requires-clause-few
unchanged_run-requires-clause-few g c =
    let s = c.args.arriving.now in
    before-few c.core_laws.ensures s.plan.now s.rows.now s.block c.args.number c.args.lists c.get-node.result.now c.get-node.ensures _ c.requires.before

pub returns-then-reads_the_same-clause-gives : goal.returns-then-reads_the_same-clause-gives
returns-then-reads_the_same-clause-gives g c =
    let s = c.args.arriving.now in
    let past = c.args.past.now in
    let some = c.reads_the_same.ensures.kept c.if-reads_the_same.true in
    let left = c.unchanged_run.ensures in
    apart-run c.core_laws.ensures s past.earlier some.0 some.1 c.args.number c.get-node.result.now c.args.lists c.unchanged_run.result c.get-node.ensures c.requires.wave.read c.requires.before
    (record { lists_are = left.lists; former = left.former; again = left.again; all = left.all; few = left.few })
    past.formers.now (c.requires.can.apart c.get-node.result.now c.get-node.ensures) c.requires.stayed (c.reads_the_same.ensures.same c.if-reads_the_same.true)

pub returns-clause-gives : goal.returns-clause-gives
returns-clause-gives g c =
    let s = c.args.arriving.now in
    apart-changed s _ c.args.lists c.args.number c.get-node.result.now c.apart_lists-now.result c.changed_run.result c.get-node.ensures (c.requires.can.apart c.get-node.result.now c.get-node.ensures) c.apart_lists-now.ensures.kept c.changed_run.ensures.gives

pub returns-clause-cause : goal.returns-clause-cause
returns-clause-cause g c =
    let s = c.args.arriving.now in
    changed-cause s.plan.now s.rows.now c.args.lists c.args.number c.apart_lists-now.result c.changed_run.result c.apart_lists-now.ensures.cause c.changed_run.ensures.refuses
