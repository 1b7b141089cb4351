use Rattle.std.proofs.Common.{refl, arith}
use Rattle.std.proofs.lemmas.List.{at_drop_all}
use Rattle.mq_outside.proofs.lemmas.Gathers.{gathers_added, gathers_all, gathers_refused}
use Rattle.mq_core.specs.StandardTable.{run_of}
use Rattle.mq_report.specs.Text.{exits_text}
use Rattle.mq_report.proofs.Loops.{gathers_begun, exits-next}
use Rattle.mq_report.proofs.sections.add_exits.Goals as goal

pub get-declared-requires : goal.get-declared-requires
get-declared-requires g c = (c.orders_rank.ensures c.args.plan.now _ _ c.get-node.ensures).inside

pub loop-rank-preserved : goal.loop-rank-preserved
loop-rank-preserved g c =
    gathers_added _ (exits-next c.args.plan.now.net c.args.rows.now (run_of c.args.plan.now c.args.rows.now) c.args.plan.now.order c.loop-rank.rank c.get-node.result.now c.get-declared.result.now c.get-node.ensures c.get-declared.ensures) c.loop-rank.invariant c.in_ok-add_exits_at.ensures

pub returns-in_err-add_exits_at : goal.returns-in_err-add_exits_at
returns-in_err-add_exits_at g c =
    gathers_refused _ c.from_residual.ensures.0 _ (exits-next c.args.plan.now.net c.args.rows.now (run_of c.args.plan.now c.args.rows.now) c.args.plan.now.order c.loop-rank.rank c.get-node.result.now c.get-declared.result.now c.get-node.ensures c.get-declared.ensures) c.loop-rank.invariant c.in_err-add_exits_at.ensures

pub loop-rank-init : goal.loop-rank-init
loop-rank-init g c = gathers_begun _ _ _ _ _ _ refl

pub returns : goal.returns
returns g c = gathers_all (at_drop_all (exits_text c.args.plan.now.net c.args.rows.now (run_of c.args.plan.now c.args.rows.now)) c.args.plan.now.order c.loop-rank.rank (omega arith)) c.loop-rank.invariant
