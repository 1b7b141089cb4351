use Rattle.std.proofs.Common.{◌∙◌, ℕ, ◌+◌, Some, ap, arith, count_by, length, map, sym, take, ◌≤◌, subst}
use Rattle.std.specs.Prelude.{slice_get}
use Rattle.std.specs.List.{zip}
use Rattle.std.proofs.lemmas.List.{length-map}
use Rattle.mq_base.proofs.lemmas.Zips.{zip-length}
use Rattle.mq_base.proofs.lemmas.Lists.{get-map}
use Rattle.mq_core.specs.Laws.{in_order_of}
use Rattle.mq_core.specs.declared.model.Fate.{Fate}
use Rattle.mq_core.specs.declared.model.Fate.TheVariants.{Departs}
use Rattle.mq_stats.proofs.Founds.{count-next, counted-few, few-in-32, few-in-64}
use Rattle.mq_stats.proofs.AllDepart.{departures-of}
use Rattle.mq_stats.proofs.Telling.{all-stay, count-most, counts-next, one-longer, zip-get}
use Rattle.mq_stats.specs.Ahead.{leaves_at_once}
use Rattle.mq_stats.proofs.pieces.ahead_of_departures.Goals as goal

pub loop-at-preserved : goal.loop-at-preserved
loop-at-preserved c =
    let fates = map (λ time. Departs time) c.args.departs.now in
    let visits = zip c.args.arrive.now fates in
    let once = λ (p : ℕ × Fate). leaves_at_once p.0 p.1 in
    let at = c.loop-at.at in
    let i = c.loop-at.invariant in
    let fate = get-map (λ d. Departs d) c.args.departs.now at c.get-in-loop-at.result.now c.get-in-loop-at.ensures in
    let go = count-next once visits at (c.get.result.now, Departs c.get-in-loop-at.result.now) (zip-get c.args.arrive.now fates at _ _ c.get.ensures fate) in
    let one = c.one_if_same_time-at_once.ensures in
    let kept = c.push_reserved-in-loop-at.ensures.items in
    let still = c.push_reserved-in-loop-at-2.ensures.items in
    let kept_longer = one-longer c.loop-at.kept.items _ _ kept in
    let still_longer = one-longer c.loop-at.still.items _ _ still in
    let few_at_once = count-most once visits (at + 1) in
    record {
      at_once = omega arith;
      kept = counts-next c.loop-at.kept.items _ (λ k. k) at _ i.kept_many kept (omega arith) i.kept;
      still = counts-next c.loop-at.still.items _ (λ k. count_by once (take k visits)) at _ i.still_many still (omega arith) i.still;
      few_at_once = omega arith;
      kept_many = kept_longer ∙ ap (λ n. n + 1) i.kept_many;
      still_many = still_longer ∙ ap (λ n. n + 1) i.still_many;
      kept_len = c.push_reserved-in-loop-at.ensures.len ∙ ap (λ n. n + 1) i.kept_len;
      still_len = c.push_reserved-in-loop-at-2.ensures.len ∙ ap (λ n. n + 1) i.still_len;
      kept_room = subst (λ room. length c.args.departs.now + 1 ≤ room) (sym c.push_reserved-in-loop-at.ensures.capacity) i.kept_room;
      still_room = subst (λ room. length c.args.departs.now + 1 ≤ room) (sym c.push_reserved-in-loop-at-2.ensures.capacity) i.still_room;
    }

pub overflow_add-at_once : goal.overflow_add-at_once
overflow_add-at_once c =
    few-in-64 _
    (counted-few (λ (p : ℕ × Fate). leaves_at_once p.0 p.1) (zip c.args.arrive.now (map (λ time. Departs time) c.args.departs.now)) c.loop-at.at _ _ _ _ _ c.loop-at.invariant.at_once c.loop-at-test.true (c.len-at-end.ensures ∙ c.requires.even) c.requires.few c.one_if_same_time-at_once.ensures)

pub overflow_cast-at_once : goal.overflow_cast-at_once
overflow_cast-at_once c =
    few-in-32 _
    (counted-few (λ (p : ℕ × Fate). leaves_at_once p.0 p.1) (zip c.args.arrive.now (map (λ time. Departs time) c.args.departs.now)) c.loop-at.at _ _ _ _ _ c.loop-at.invariant.at_once c.loop-at-test.true (c.len-at-end.ensures ∙ c.requires.even) c.requires.few c.one_if_same_time-at_once.ensures)

pub returns : goal.returns
returns c =
    let departs = c.args.departs.now in
    let many = length-map departs (λ time. Departs time) in
    let even = many ∙ c.requires.even in
    let visits = zip-length c.args.arrive.now (map (λ time. Departs time) departs) even in
    let kept = ap length c.from_vec.ensures in
    let still = ap length c.from_vec-2.ensures in
    let kept_many = c.loop-at.invariant.kept_many in
    let still_many = c.loop-at.invariant.still_many in
    record {
      comings = record { even = even; few = c.requires.few; rising = c.requires.arrive; later = c.requires.departs };
      leaving = c.requires.leaving ∙ ap (in_order_of (λ time. time)) (sym (departures-of departs));
      kept = record {
        many = omega arith;
        at_indices = λ index l. ap (λ counts. slice_get counts index) c.from_vec.ensures ∙ (c.loop-at.invariant.kept index (omega arith) ∙ ap Some (sym (all-stay index departs (omega arith))));
      };
      still = record {
        many = omega arith;
        at_indices = λ index l. ap (λ counts. slice_get counts index) c.from_vec-2.ensures ∙ c.loop-at.invariant.still index (omega arith);
      };
    }
