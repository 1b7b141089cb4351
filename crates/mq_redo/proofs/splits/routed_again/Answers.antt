use Rattle.std.proofs.Common.{◌≡◌, ◌∙◌, ◌*◌, ◌^◌, ◌<◌, All, ℕ, List, Some, ap, get_or, length, map, min, refl, subst, sym, arith}
use Rattle.std.proofs.lemmas.List.{length-map}
use Rattle.mq_core.specs.Kinds.Split.{output_at, route_value}
use Rattle.mq_core.specs.declared.model.Kind.TheVariants.{Split}
use Rattle.mq_core.specs.declared.model.Route.{Route}
use Rattle.mq_redo.specs.Alone.{as_is, own_only}
use Rattle.mq_redo.specs.Doing.{AreStaying}
use Rattle.mq_redo.specs.Kept.{coming_as, split_does}
use Rattle.mq_redo.specs.Staying.{IsKeptScan}
use Rattle.mq_redo.proofs.Routed.{outs-small, routed-all}
use Rattle.mq_redo.proofs.Same.{split-same}
use Rattle.mq_redo.proofs.Staying.{kept-many, staying, times-many}
use Rattle.mq_scan.specs.Folds.{carries_after}
use Rattle.mq_scan.specs.declared.blocks.Blocks.{Blocks}
use Rattle.mq_split.specs.Outs.{outs_from, picked_stream}
use Rattle.mq_scan.proofs.lemmas.Blocks.{last-end}
use Rattle.mq_stations.proofs.lemmas.Leaves.{routed-outputs, splits}
use Rattle.mq_redo.proofs.splits.routed_again.Goals as goal

pub first_outs-requires : goal.first_outs-requires
first_outs-requires g c =
    let route = c.args.route.now in
    let old = c.requires.kept.0 in
    let same = c.requires.kept.2.same in
    let few = (c.alike_is_first.ensures (Split route) old (coming_as c.args.rows.now c.args.arrivals.now)).old_few in
    let many = kept-many as_is (split_does route old) 0 (length old.job) c.args.blocks.now.block c.args.outs.now c.args.carries.now c.requires.kept.1 in
    omega arith

pub redone_behind-requires-clause-stays : goal.redone_behind-requires-clause-stays
redone_behind-requires-clause-stays g c =
    let route = c.args.route.now in
    let old = c.requires.kept.0 in
    let new = coming_as c.args.rows.now c.args.arrivals.now in
    let same = c.requires.kept.2.same in
    let few = (c.alike_is_first.ensures (Split route) old new).old_few in
    let v : c.new-step.result.values.now ≡ map (route_value c.args.rows.now route) c.args.arrivals.now.job = c.new-step.ensures.values ∙ (c.in_ok-values.ensures ∙ ap (map (route_value c.args.rows.now route)) c.as_slice.ensures) in
    subst (λ (z : Route × List ℕ). AreStaying as_is own_only 0 (λ k. output_at z.0 (get_or z.1 k 0) k) c.args.blocks.now.block c.args.first c.in-Ok.stay.items c.args.carries.now) (λ i. (sym c.new-step.ensures.route i, sym v i))
    (staying as_is (split_does route old) 0 (length old.job) c.args.blocks.now.block c.args.outs.now c.args.carries.now c.requires.kept.1 own_only (λ k. output_at route (get_or (map (route_value new.rows route) new.job) k 0) k) c.args.first c.in-Ok.stay.items (omega arith)
    (λ k l last. split-same c.alike_is_first.ensures old new k route last (omega arith)) c.in-Ok.ensures)

-- the outputs of all jobs
outs-are : (route : Route) (values times : List ℕ) (blocks : Blocks) → blocks.n ≡ length values → times ≡ map as_is (carries_after own_only 0 (λ k. output_at route (get_or values k 0) k) 0 (min (blocks.blocks * blocks.block) blocks.n)) → times ≡ outs_from route 0 values
outs-are route values times blocks e h =
    h ∙ (ap (λ (n : ℕ). map as_is (carries_after own_only 0 (λ k. output_at route (get_or values k 0) k) 0 n)) (last-end blocks blocks.blocks (omega arith) ∙ e) ∙ routed-all route values)

pub narrow_outs-requires : goal.narrow_outs-requires
narrow_outs-requires g c =
    let step = c.new-step.result in
    let rows = c.args.rows.now in
    let route = c.args.route.now in
    let v : step.values.now ≡ map (route_value rows route) c.args.arrivals.now.job = c.new-step.ensures.values ∙ (c.in_ok-values.ensures ∙ ap (map (route_value rows route)) c.as_slice.ensures) in
    let n = c.requires.all ∙ sym (ap length v ∙ length-map c.args.arrivals.now.job (route_value rows route)) in
    let outs = c.deref.ensures.value ∙ (outs-are step.route.now step.values.now c.in-Ok-redone_behind.done.times.items c.args.blocks.now n c.in-Ok-redone_behind.ensures.done.times_are ∙ (λ i. outs_from (c.new-step.ensures.route i) 0 (c.new-step.ensures.values i))) in
    subst (All (λ out. out < 2 ^ 8)) (sym outs) (outs-small route 0 c.in_ok-values.values (routed-outputs rows route c.args.arrivals.now c.requires.load))

-- one of each job
outs-many : (route : Route) (values times : List ℕ) (blocks : Blocks) → times ≡ map as_is (carries_after own_only 0 (λ k. output_at route (get_or values k 0) k) 0 (min (blocks.blocks * blocks.block) blocks.n)) → length times ≡ blocks.n
outs-many route values times blocks h = ap length h ∙ (times-many as_is own_only 0 (λ k. output_at route (get_or values k 0) k) 0 (min (blocks.blocks * blocks.block) blocks.n) ∙ last-end blocks blocks.blocks (omega arith))

pub streams_by-requires-clause-jobs : goal.streams_by-requires-clause-jobs
streams_by-requires-clause-jobs g c =
    let step = c.new-step.result in
    let many = outs-many step.route.now step.values.now c.in-Ok-redone_behind.done.times.items c.args.blocks.now c.in-Ok-redone_behind.ensures.done.times_are in
    let wide = ap length c.deref.ensures.value in
    let narrow = ap length (c.deref-2.ensures.value ∙ c.in-Ok-narrow_outs.ensures) in
    let jobs = ap length c.as_slice-2.ensures in
    let all = c.requires.all in
    omega arith

pub streams_by-requires-clause-times : goal.streams_by-requires-clause-times
streams_by-requires-clause-times g c =
    let step = c.new-step.result in
    let many = outs-many step.route.now step.values.now c.in-Ok-redone_behind.done.times.items c.args.blocks.now c.in-Ok-redone_behind.ensures.done.times_are in
    let wide = ap length c.deref.ensures.value in
    let narrow = ap length (c.deref-2.ensures.value ∙ c.in-Ok-narrow_outs.ensures) in
    let times = ap length c.as_slice-3.ensures in
    let all = c.requires.all in
    let even = c.requires.load.ordered.ordered.even in
    omega arith

pub returns-clause-leaves : goal.returns-clause-leaves
returns-clause-leaves g c =
    let step = c.new-step.result in
    let rows = c.args.rows.now in
    let route = c.args.route.now in
    let arrivals = c.args.arrivals.now in
    let values = c.in_ok-values.values in
    let routed : values ≡ map (route_value rows route) arrivals.job = c.in_ok-values.ensures ∙ ap (map (route_value rows route)) c.as_slice.ensures in
    let n = c.requires.all ∙ sym (ap length (c.new-step.ensures.values ∙ routed) ∙ length-map arrivals.job (route_value rows route)) in
    let outs : c.deref-2.result.now ≡ outs_from route 0 values =
    c.deref-2.ensures.value ∙ (c.in-Ok-narrow_outs.ensures ∙ (c.deref.ensures.value ∙ (outs-are step.route.now step.values.now c.in-Ok-redone_behind.done.times.items c.args.blocks.now n c.in-Ok-redone_behind.ensures.done.times_are ∙ (λ i. outs_from (c.new-step.ensures.route i) 0 (c.new-step.ensures.values i))))) in
    splits rows route arrivals _ values c.in-Ok-streams_by.streams c.requires.load.ordered.ordered routed refl
    (record {
      count = c.in-Ok-streams_by.ensures.count;
      parts = λ out l. c.in-Ok-streams_by.ensures.parts out l ∙ (λ i. Some (picked_stream (outs i) (record { job = c.as_slice-2.ensures i; time = c.as_slice-3.ensures i }) out));
    })

pub returns-clause-kept : goal.returns-clause-kept
returns-clause-kept g c =
    let blocks = c.args.blocks.now in
    let route = c.args.route.now in
    let done = c.in-Ok-redone_behind.done in
    let v : c.new-step.result.values.now ≡ map (route_value c.args.rows.now route) c.args.arrivals.now.job = c.new-step.ensures.values ∙ (c.in_ok-values.ensures ∙ ap (map (route_value c.args.rows.now route)) c.as_slice.ensures) in
    let narrow : done.times.items ≡ c.in-Ok-narrow_outs.outs.items = sym (c.in-Ok-narrow_outs.ensures ∙ c.deref.ensures.value) in
    subst (λ (z : Route × List ℕ × ℕ × List ℕ). IsKeptScan as_is (λ k last. own_only (output_at z.0 (get_or z.1 k 0) k) last) 0 z.2 blocks.block z.3 done.carries.items)
    (λ i. (c.new-step.ensures.route i, v i, c.requires.all i, narrow i))
    (c.done_are_kept.ensures blocks done.times.items done.carries.items c.in-Ok-redone_behind.ensures.done)
