use Rattle.std.proofs.Common.{◌+◌, ◌<◌, ◌≤◌, ◌∙◌, List, length, set, refl, sym, ap, subst, arith}
use Rattle.mq_core.specs.declared.model.Stream.{Stream}
use Rattle.mq_core.specs.declared.model.Visits.{Visits}
use Rattle.mq_engine.specs.Answer.{IsCause}
use Rattle.mq_kept.specs.Formers.{IsPut}
use Rattle.mq_kept.specs.NodeRuns.{AreKept, HaveStayed, earlier_rows}
use Rattle.mq_kept.specs.declared.checkpoints.Checkpoints.{Checkpoints}
use Rattle.mq_kept.specs.declared.former.NodeLists.{NodeLists}
use Rattle.mq_kept.proofs.Formers.{put-count, put-twice}
use Rattle.mq_kept.proofs.Ranks.{IsDoneTo, rank-wave, taken-done}
use Rattle.mq_kept.proofs.WorkedTo.{again-net, all-kept, all-redone, all-spent, before-at, blocks-net, comes-refused, fault-is-cause, fits-refused, in-checkpoints, in-formers, in-outputs, in-visits, reads-stayed, spent-more, spent-within, sums-fit, the-node, worked-begins, worked-more, worked-net}
use Rattle.mq_kept.proofs.again.run_again.Goals as goal

pub loop-rank-init : goal.loop-rank-init
loop-rank-init g c = record {
  worked = worked-begins c.core_laws.ensures c.args.plan.now c.args.rows.now c.args.block (earlier_rows c.args.rows.now c.args.earlier) c.args.nodes _ c.requires.before refl c.requires.formers c.requires.same refl;
  steps = omega arith;
  spent = omega arith;
}

pub put_at-lists-requires-clause-visits : goal.put_at-lists-requires-clause-visits
put_at-lists-requires-clause-visits g c = in-visits c.core_laws.ensures c.args.plan.now c.args.rows.now c.args.block (earlier_rows c.args.rows.now c.args.earlier) c.args.nodes c.loop-rank.worked c.loop-rank.rank c.get-number.result.now c.loop-rank.invariant.worked c.get-number.ensures

pub put_at-lists-requires-clause-outputs : goal.put_at-lists-requires-clause-outputs
put_at-lists-requires-clause-outputs g c = in-outputs c.core_laws.ensures c.args.plan.now c.args.rows.now c.args.block (earlier_rows c.args.rows.now c.args.earlier) c.args.nodes c.loop-rank.worked c.loop-rank.rank c.get-number.result.now c.loop-rank.invariant.worked c.get-number.ensures

pub put_at-lists-requires-clause-checkpoints : goal.put_at-lists-requires-clause-checkpoints
put_at-lists-requires-clause-checkpoints g c = in-checkpoints c.core_laws.ensures c.args.plan.now c.args.rows.now c.args.block (earlier_rows c.args.rows.now c.args.earlier) c.args.nodes c.loop-rank.worked c.loop-rank.rank c.get-number.result.now c.loop-rank.invariant.worked c.get-number.ensures

pub node_run-requires-clause-wave : goal.node_run-requires-clause-wave
node_run-requires-clause-wave g c κs within =
    let it = c.loop-rank.invariant.worked in
    let nodes = c.loop-rank.worked.nodes in
    let v = c.get-number.result.now in
    let outputs = sym (c.as_slice.ensures.value ∙ (c.put_at-lists.ensures.put.1 ∙ ap (λ (l : NodeLists). set nodes.outputs.items v l.streams) c.no_lists.ensures)) in
    rank-wave c.core_laws.ensures _ (set nodes.visits.items v c.no_lists.result.visits) c.loop-rank.rank v c.requires.read
    (subst (λ (all : List (List Stream)). IsDoneTo c.args.plan.now c.args.rows.now (set nodes.visits.items v c.no_lists.result.visits) all c.loop-rank.rank) outputs
    (taken-done c.core_laws.ensures c.args.plan.now c.args.rows.now nodes.visits.items nodes.outputs.items c.loop-rank.rank v it.done c.get-number.ensures c.no_lists.result.visits))
    c.get-number.ensures refl (omega arith)

pub node_run-requires-clause-before : goal.node_run-requires-clause-before
node_run-requires-clause-before g c κs within = before-at c.core_laws.ensures c.args.plan.now c.args.rows.now c.args.block (earlier_rows c.args.rows.now c.args.earlier) c.args.nodes c.loop-rank.worked c.loop-rank.rank c.get-number.result.now c.loop-rank.invariant.worked c.get-number.ensures c.requires.before c.put_at-lists.result c.put_at-lists.ensures.had

pub node_run-requires-clause-formers : goal.node_run-requires-clause-formers
node_run-requires-clause-formers g c κs within = ap length c.as_slice-in-loop-rank.ensures.value ∙ c.loop-rank.invariant.worked.long

pub node_run-requires-clause-stayed : goal.node_run-requires-clause-stayed
node_run-requires-clause-stayed g c κs within =
    let old = earlier_rows c.args.rows.now c.args.earlier in
    subst (λ formers. HaveStayed c.args.plan.now old c.args.rows.now formers c.get-number.result.now) (sym c.as_slice-in-loop-rank.ensures.value)
    (reads-stayed c.core_laws.ensures c.args.plan.now c.args.rows.now c.args.block old c.args.nodes c.loop-rank.worked c.loop-rank.rank c.get-number.result.now c.loop-rank.invariant.worked c.get-number.ensures)

pub put-requires-clause-nodes : goal.put-requires-clause-nodes
put-requires-clause-nodes g c = put-count c.loop-rank.worked.nodes c.put_at-lists.new.nodes c.get-number.result.now c.no_lists.result c.put_at-lists.ensures.put (length c.loop-rank.worked.formers.items) c.loop-rank.invariant.worked.count

pub put-requires-clause-inside : goal.put-requires-clause-inside
put-requires-clause-inside g c = in-formers c.core_laws.ensures c.args.plan.now c.args.rows.now c.args.block (earlier_rows c.args.rows.now c.args.earlier) c.args.nodes c.loop-rank.worked c.loop-rank.rank c.get-number.result.now c.loop-rank.invariant.worked c.get-number.ensures

pub put-requires-clause-again : goal.put-requires-clause-again
put-requires-clause-again g c = (sums-fit c.args.plan.now c.args.rows.now c.args.block (earlier_rows c.args.rows.now c.args.earlier) c.args.nodes c.loop-rank.worked c.loop-rank.rank c.get-number.result.now c.in-Ok.gives.again c.in-Ok.gives.all c.loop-rank.invariant.worked c.get-number.ensures c.in-Ok.ensures.gives.again_few c.in-Ok.ensures.gives.all_few).0

pub put-requires-clause-all : goal.put-requires-clause-all
put-requires-clause-all g c = (sums-fit c.args.plan.now c.args.rows.now c.args.block (earlier_rows c.args.rows.now c.args.earlier) c.args.nodes c.loop-rank.worked c.loop-rank.rank c.get-number.result.now c.in-Ok.gives.again c.in-Ok.gives.all c.loop-rank.invariant.worked c.get-number.ensures c.in-Ok.ensures.gives.again_few c.in-Ok.ensures.gives.all_few).1

pub loop-rank-preserved : goal.loop-rank-preserved
loop-rank-preserved g c =
    let old = earlier_rows c.args.rows.now c.args.earlier in
    let it = c.loop-rank.invariant.worked in
    let worked = c.loop-rank.worked in
    let v = c.get-number.result.now in
    let gives = c.in-Ok.gives in
    let lists = c.put_at-lists.result in
    let t = c.in-Ok.ensures.gives in
    let w = t.kept.known in
    let before = before-at c.core_laws.ensures c.args.plan.now c.args.rows.now c.args.block old c.args.nodes worked c.loop-rank.rank v it c.get-number.ensures c.requires.before lists c.put_at-lists.ensures.had in
    let all = t.all ∙ blocks-net c.runs_are_of_networks.ensures c.args.plan.now c.args.rows.now c.args.block old v lists w.0 w.1 before in
    record {
      worked = worked-more c.core_laws.ensures c.args.plan.now c.args.rows.now c.args.block old c.args.nodes worked c.loop-rank.rank v it c.get-number.ensures lists c.put_at-lists.ensures.had gives w.0 w.1 w.2 (t.kept.checkpoints w.0 w.1) t.back t.fits t.stayed
          (t.again ∙ again-net c.runs_are_of_networks.ensures c.args.plan.now c.args.rows.now c.args.block old v lists w.0 w.1 before) all t.again_few t.all_few c.put.new.worked
          (put-twice worked.nodes c.put_at-lists.new.nodes v c.no_lists.result c.put_at-lists.ensures.put c.put.new.worked.nodes gives.lists c.put.ensures.put) c.put.ensures.formers c.put.ensures.redone;
      steps = let so_far = c.loop-rank.invariant.steps in let more = c.node_run.ensures.steps in omega arith;
      spent = spent-more c.core_laws.ensures c.args.plan.now c.args.rows.now c.args.block old c.args.nodes worked c.loop-rank.rank v it c.get-number.ensures c.loop-rank.steps c.args.steps.now c.node_run.new.steps c.loop-rank.invariant.spent
          (c.in-Ok.ensures.counted ∙ ap (λ n. c.loop-rank.steps + n) (worked-net c.runs_are_of_networks.ensures c.args.plan.now c.args.rows.now c.args.block old v lists w.0 w.1 before));
    }

pub put_at-requires-clause-visits : goal.put_at-requires-clause-visits
put_at-requires-clause-visits g c =
    let it = c.loop-rank.invariant.worked in
    let n = put-count c.loop-rank.worked.nodes c.put_at-lists.new.nodes c.get-number.result.now c.no_lists.result c.put_at-lists.ensures.put (length c.loop-rank.worked.formers.items) it.count in
    subst (λ m. c.get-number.result.now < m) (sym n.0) (in-formers c.core_laws.ensures c.args.plan.now c.args.rows.now c.args.block (earlier_rows c.args.rows.now c.args.earlier) c.args.nodes c.loop-rank.worked c.loop-rank.rank c.get-number.result.now it c.get-number.ensures)

pub put_at-requires-clause-outputs : goal.put_at-requires-clause-outputs
put_at-requires-clause-outputs g c =
    let it = c.loop-rank.invariant.worked in
    let n = put-count c.loop-rank.worked.nodes c.put_at-lists.new.nodes c.get-number.result.now c.no_lists.result c.put_at-lists.ensures.put (length c.loop-rank.worked.formers.items) it.count in
    subst (λ m. c.get-number.result.now < m) (sym n.1) (in-formers c.core_laws.ensures c.args.plan.now c.args.rows.now c.args.block (earlier_rows c.args.rows.now c.args.earlier) c.args.nodes c.loop-rank.worked c.loop-rank.rank c.get-number.result.now it c.get-number.ensures)

pub put_at-requires-clause-checkpoints : goal.put_at-requires-clause-checkpoints
put_at-requires-clause-checkpoints g c =
    let it = c.loop-rank.invariant.worked in
    let n = put-count c.loop-rank.worked.nodes c.put_at-lists.new.nodes c.get-number.result.now c.no_lists.result c.put_at-lists.ensures.put (length c.loop-rank.worked.formers.items) it.count in
    subst (λ m. c.get-number.result.now < m) (sym n.2) (in-formers c.core_laws.ensures c.args.plan.now c.args.rows.now c.args.block (earlier_rows c.args.rows.now c.args.earlier) c.args.nodes c.loop-rank.worked c.loop-rank.rank c.get-number.result.now it c.get-number.ensures)

pub undone-requires : goal.undone-requires
undone-requires g c =
    let worked = c.loop-rank.worked in
    let twice = put-twice worked.nodes c.put_at-lists.new.nodes c.get-number.result.now c.no_lists.result c.put_at-lists.ensures.put c.put_at.new.nodes c.in-Err.refusal.lists c.put_at.ensures.put in
    record {
      nodes = put-count worked.nodes c.put_at.new.nodes c.get-number.result.now c.in-Err.refusal.lists twice (length worked.formers.items) c.loop-rank.invariant.worked.count;
      fit = fits-refused c.core_laws.ensures c.args.plan.now c.args.rows.now c.args.block (earlier_rows c.args.rows.now c.args.earlier) c.args.nodes worked c.loop-rank.rank c.get-number.result.now c.loop-rank.invariant.worked c.get-number.ensures
          c.put_at-lists.result c.put_at.new.nodes c.put_at-lists.ensures.had (subst (λ (l : NodeLists). IsPut worked.nodes c.get-number.result.now l c.put_at.new.nodes) c.in-Err.ensures.back twice);
    }

pub returns-in-Err-clause-cause : goal.returns-in-Err-clause-cause
returns-in-Err-clause-cause g c =
    subst (IsCause c.args.plan.now c.args.rows.now) (sym c.undone.ensures.fault)
    (fault-is-cause c.core_laws.ensures c.args.plan.now c.args.rows.now c.args.block (earlier_rows c.args.rows.now c.args.earlier) c.args.nodes c.loop-rank.worked c.loop-rank.rank c.get-number.result.now c.loop-rank.invariant.worked c.get-number.ensures c.requires.read c.in-Err.refusal.fault c.in-Err.ensures.cause)

pub returns-in-Err-clause-back : goal.returns-in-Err-clause-back
returns-in-Err-clause-back g c =
    let worked = c.loop-rank.worked in
    let v = c.get-number.result.now in
    let twice = put-twice worked.nodes c.put_at-lists.new.nodes v c.no_lists.result c.put_at-lists.ensures.put c.put_at.new.nodes c.in-Err.refusal.lists c.put_at.ensures.put in
    c.undone.ensures.back c.args.nodes (comes-refused c.core_laws.ensures c.args.plan.now c.args.rows.now c.args.block (earlier_rows c.args.rows.now c.args.earlier) c.args.nodes worked c.loop-rank.rank v c.loop-rank.invariant.worked c.get-number.ensures
    c.put_at-lists.result c.put_at.new.nodes c.put_at-lists.ensures.had (subst (λ (l : NodeLists). IsPut worked.nodes v l c.put_at.new.nodes) c.in-Err.ensures.back twice))

pub returns-in-Err-clause-spent : goal.returns-in-Err-clause-spent
returns-in-Err-clause-spent g c =
    let old = earlier_rows c.args.rows.now c.args.earlier in
    let it = c.loop-rank.invariant.worked in
    let worked = c.loop-rank.worked in
    let v = c.get-number.result.now in
    let lists = c.put_at-lists.result in
    let node = the-node c.core_laws.ensures c.args.plan.now c.args.rows.now c.args.block old c.args.nodes worked c.loop-rank.rank v it c.get-number.ensures in
    let before = before-at c.core_laws.ensures c.args.plan.now c.args.rows.now c.args.block old c.args.nodes worked c.loop-rank.rank v it c.get-number.ensures c.requires.before lists c.put_at-lists.ensures.had in
    let within = spent-within c.core_laws.ensures c.args.plan.now c.args.rows.now c.args.block old c.args.nodes worked c.loop-rank.rank v it c.get-number.ensures in
    let spent = subst (λ n. c.node_run.new.steps ≤ c.loop-rank.steps + n) (worked-net c.runs_are_of_networks.ensures c.args.plan.now c.args.rows.now c.args.block old v lists node.0 node.1 before) c.node_run.ensures.spent in
    let so_far = c.loop-rank.invariant.spent in
    omega arith

pub returns-clause-kept : goal.returns-clause-kept
returns-clause-kept g c =
    let end = c.len-rank-end.ensures in
    let last = c.loop-rank-test.false in
    subst (λ (p : List Visits × List (List Stream) × List Checkpoints). AreKept c.args.plan.now c.args.rows.now c.args.block (record { visits = p.0; outputs = p.1 }) p.2) (λ i. (sym c.new_run.ensures.visits i, sym c.new_run.ensures.outputs i, sym c.new_run.ensures.checkpoints i))
    (all-kept c.core_laws.ensures c.args.plan.now c.args.rows.now c.args.block (earlier_rows c.args.rows.now c.args.earlier) c.args.nodes c.loop-rank.worked c.loop-rank.rank c.requires.read (omega arith) c.loop-rank.invariant.worked)

pub returns-clause-redone : goal.returns-clause-redone
returns-clause-redone g c =
    let end = c.len-rank-end.ensures in
    let last = c.loop-rank-test.false in
    c.new_run.ensures.redone ∙ all-redone c.core_laws.ensures c.args.plan.now c.args.rows.now c.args.block (earlier_rows c.args.rows.now c.args.earlier) c.args.nodes c.loop-rank.worked c.loop-rank.rank c.requires.read (omega arith) c.loop-rank.invariant.worked

pub returns-clause-counted : goal.returns-clause-counted
returns-clause-counted g c =
    let end = c.len-rank-end.ensures in
    let last = c.loop-rank-test.false in
    let all = all-spent c.args.plan.now c.args.rows.now c.args.block (earlier_rows c.args.rows.now c.args.earlier) c.loop-rank.rank (omega arith) in
    let so_far = c.loop-rank.invariant.spent in
    omega arith

pub returns-clause-spent : goal.returns-clause-spent
returns-clause-spent g c =
    let end = c.len-rank-end.ensures in
    let last = c.loop-rank-test.false in
    let all = all-spent c.args.plan.now c.args.rows.now c.args.block (earlier_rows c.args.rows.now c.args.earlier) c.loop-rank.rank (omega arith) in
    let so_far = c.loop-rank.invariant.spent in
    omega arith
