use Rattle.std.proofs.Common.{◌*◌, ◌++◌, ℕ, List, ap, length, map, sym, subst, take, arith}
use Rattle.mq_core.specs.declared.model.Fate.TheVariants.{Departs}
use Rattle.mq_redo.specs.Kept.{coming_as}
use Rattle.mq_kept.proofs.InTurn.{node-laws}
use Rattle.mq_kept.proofs.TailRuns.{node-kept, sliced, tail-sliced, within}
use Rattle.mq_kept.specs.KeptNodes.{IsKeptNode}
use Rattle.mq_kept.specs.Tails.{IsTailPut}
use Rattle.mq_kept.specs.declared.checkpoints.Checkpoints.{Checkpoints}
use Rattle.mq_kept.proofs.tail_runs.tail_put.Goals as goal

pub overflow_mul-from : goal.overflow_mul-from
overflow_mul-from c =
    let stays = c.requires.1.stays in
    let inside = within c.alike_is_first.ensures c.args.load.now c.requires.0 c.args.first c.args.lists.now stays in
    let even = stays.loaded.load.ordered.ordered.even in
    let few = stays.loaded.load.few in
    omega arith

pub slice_bounds-edit_tail-count : goal.slice_bounds-edit_tail-count
slice_bounds-edit_tail-count c =
    let stays = c.requires.1.stays in
    let inside = within c.alike_is_first.ensures c.args.load.now c.requires.0 c.args.first c.args.lists.now stays in
    let jobs = ap length c.as_slice-jobs.ensures in
    omega arith

pub slice_bounds-edit_tail-start : goal.slice_bounds-edit_tail-start
slice_bounds-edit_tail-start c =
    let stays = c.requires.1.stays in
    let inside = within c.alike_is_first.ensures c.args.load.now c.requires.0 c.args.first c.args.lists.now stays in
    let jobs = ap length c.as_slice-jobs.ensures in
    omega arith

pub slice_bounds-edit_tail-count-2 : goal.slice_bounds-edit_tail-count-2
slice_bounds-edit_tail-count-2 c =
    let stays = c.requires.1.stays in
    let inside = within c.alike_is_first.ensures c.args.load.now c.requires.0 c.args.first c.args.lists.now stays in
    let even = stays.loaded.load.ordered.ordered.even in
    let times = ap length c.as_slice-times.ensures in
    omega arith

pub slice_bounds-edit_tail-start-2 : goal.slice_bounds-edit_tail-start-2
slice_bounds-edit_tail-start-2 c =
    let stays = c.requires.1.stays in
    let inside = within c.alike_is_first.ensures c.args.load.now c.requires.0 c.args.first c.args.lists.now stays in
    let even = stays.loaded.load.ordered.ordered.even in
    let times = ap length c.as_slice-times.ensures in
    omega arith

pub edit_tail-requires-clause-tail : goal.edit_tail-requires-clause-tail
edit_tail-requires-clause-tail c =
    let h = c.requires.1 in
    let laws = node-laws c.core_laws.ensures c.orders_keep_items.ensures c.sequences_go_by_fates.ensures in
    (c.args.load.now.rows.now, tail-sliced c.alike_is_first.ensures c.args.load.now c.requires.0 c.args.first c.args.lists.now h.stays laws c.fates_are_in_time.ensures c.args.departs.now h.served c.as_slice-jobs.result.now c.as_slice-times.result.now c.as_slice-jobs.ensures c.as_slice-times.ensures)

pub returns-in-Err-clause-cause : goal.returns-in-Err-clause-cause
returns-in-Err-clause-cause c =
    let h = c.requires.1 in
    let laws = node-laws c.core_laws.ensures c.orders_keep_items.ensures c.sequences_go_by_fates.ensures in
    c.in-Err.ensures.cause c.args.load.now.rows.now
    (tail-sliced c.alike_is_first.ensures c.args.load.now c.requires.0 c.args.first c.args.lists.now h.stays laws c.fates_are_in_time.ensures c.args.departs.now h.served c.as_slice-jobs.result.now c.as_slice-times.result.now c.as_slice-jobs.ensures c.as_slice-times.ensures)

pub returns-in-Ok-clause-kept : goal.returns-in-Ok-clause-kept
returns-in-Ok-clause-kept c =
    let h = c.requires.1 in
    let load = c.args.load.now in
    let lists = c.args.lists.now in
    let from = c.args.first * load.block in
    let laws = node-laws c.core_laws.ensures c.orders_keep_items.ensures c.sequences_go_by_fates.ensures in
    let jobs = sliced c.as_slice-jobs.result.now load.arrivals.now.job from c.as_slice-jobs.ensures in
    let times = sliced c.as_slice-times.result.now load.arrivals.now.time from c.as_slice-times.ensures in
    let known = c.in-Ok.ensures.known load.rows.now
    (tail-sliced c.alike_is_first.ensures load c.requires.0 c.args.first lists h.stays laws c.fates_are_in_time.ensures c.args.departs.now h.served c.as_slice-jobs.result.now c.as_slice-times.result.now c.as_slice-jobs.ensures c.as_slice-times.ensures) in
    let put = subst (λ (p : List ℕ × List ℕ). IsTailPut from p.0 p.1 c.args.departs.now lists c.edit_tail.new.lists) (λ k. (jobs k, times k)) c.in-Ok.ensures.put in
    node-kept c.alike_is_first.ensures load c.requires.0 c.args.first lists h.stays c.edit_tail.new.lists c.args.departs.now put known c.replace-was.new.dest
    (subst (λ (points : Checkpoints). IsKeptNode c.requires.0 (coming_as load.rows.now load.arrivals.now) load.block (take from lists.visits.fate ++ map (λ time. Departs time) c.args.departs.now) points) (sym c.replace-was.ensures.after) h.kept)
