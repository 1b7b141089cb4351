use Rattle.std.proofs.Common.{sym, subst, arith}
use Rattle.mq_core.specs.Sequences.{IsRunOf}
use Rattle.mq_engine.specs.declared.progress.Stand.TheVariants.{Waiting, Done, Crowded, Late}
use Rattle.mq_engine.proofs.Endings.{crowd-is-first, done-more, each-done, late-is-first, none-refused, none-waits, rank-inside, reached-stands, run-done}
use Rattle.mq_engine.proofs.Settling.{stand-at}
use Rattle.mq_engine.proofs.ended.Goals as goal

pub index-requires : goal.index-requires
index-requires c = let l = rank-inside c.requires.laws c.args.plan.now c.args.rows.now c.requires.read _ (reached-stands _ _ _ _ _ c.requires.reached) c.loop-rank.rank c.get.result.now c.get.ensures in omega arith

pub returns-in-Crowded-clause-cause : goal.returns-in-Crowded-clause-cause
returns-in-Crowded-clause-cause c =
    let inside = rank-inside c.requires.laws c.args.plan.now c.args.rows.now c.requires.read _ (reached-stands _ _ _ _ _ c.requires.reached) c.loop-rank.rank c.get.result.now c.get.ensures in
    crowd-is-first c.requires.laws c.args.plan.now c.args.rows.now c.requires.read _ (reached-stands _ _ _ _ _ c.requires.reached) c.loop-rank.rank c.get.result.now c.in-Crowded.over c.loop-rank.invariant c.get.ensures (stand-at c.args.progress.stands.items c.get.result.now _ (Crowded c.in-Crowded.over) inside c.index.ensures c.in-Crowded.is)

pub returns-in-Late-clause-cause : goal.returns-in-Late-clause-cause
returns-in-Late-clause-cause c =
    let inside = rank-inside c.requires.laws c.args.plan.now c.args.rows.now c.requires.read _ (reached-stands _ _ _ _ _ c.requires.reached) c.loop-rank.rank c.get.result.now c.get.ensures in
    late-is-first c.requires.laws c.args.plan.now c.args.rows.now c.requires.read _ (reached-stands _ _ _ _ _ c.requires.reached) c.loop-rank.rank c.get.result.now c.in-Late.past c.loop-rank.invariant c.get.ensures (stand-at c.args.progress.stands.items c.get.result.now _ (Late c.in-Late.past) inside c.index.ensures c.in-Late.is)

pub unreachable-requires : goal.unreachable-requires
unreachable-requires c =
    let inside = rank-inside c.requires.laws c.args.plan.now c.args.rows.now c.requires.read _ (reached-stands _ _ _ _ _ c.requires.reached) c.loop-rank.rank c.get.result.now c.get.ensures in
    none-waits c.requires.laws c.args.plan.now c.args.rows.now c.requires.read _ (reached-stands _ _ _ _ _ c.requires.reached) c.loop-rank.rank c.get.result.now c.loop-rank.invariant c.get.ensures (stand-at c.args.progress.stands.items c.get.result.now _ Waiting inside c.index.ensures c.in-Waiting.is) c.requires.stuck

pub loop-rank-preserved : goal.loop-rank-preserved
loop-rank-preserved c =
    let inside = rank-inside c.requires.laws c.args.plan.now c.args.rows.now c.requires.read _ (reached-stands _ _ _ _ _ c.requires.reached) c.loop-rank.rank c.get.result.now c.get.ensures in
    done-more c.requires.laws c.args.plan.now c.args.rows.now c.requires.read _ (reached-stands _ _ _ _ _ c.requires.reached) c.loop-rank.rank c.get.result.now c.loop-rank.invariant c.get.ensures (stand-at c.args.progress.stands.items c.get.result.now _ Done inside c.index.ensures c.in-Done.is)

pub returns-clause-ok : goal.returns-clause-ok
returns-clause-ok c =
    subst (IsRunOf c.args.plan.now c.args.rows.now) (λ k. record { visits = sym c.from_vec.ensures k; outputs = sym c.from_vec-2.ensures k })
    (run-done c.requires.laws c.args.plan.now c.args.rows.now _ _ _ c.requires.reached
    (each-done c.requires.laws c.args.plan.now c.args.rows.now c.requires.read _ (reached-stands _ _ _ _ _ c.requires.reached) (λ q v l e. c.loop-rank.invariant q v (omega arith) e)))

pub returns-clause-fine : goal.returns-clause-fine
returns-clause-fine c = none-refused c.requires.laws c.args.plan.now c.args.rows.now c.requires.read _ (reached-stands _ _ _ _ _ c.requires.reached) (λ q v l e. c.loop-rank.invariant q v (omega arith) e)
