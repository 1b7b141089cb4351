use Rattle.std.proofs.Common.{◌≡◌, ◌-◌, ◌≤◌, ◌+◌, sym, ap, ◌∙◌, subst, arith, count_by, take}
use Rattle.mq_core.specs.OnceOut.{departs_after}
use Rattle.mq_stats.proofs.Founds.{told, founds-next, count-next, gone-next, counted-few, less-few, few-in-32, few-in-64, founds-ended}
use Rattle.mq_stats.proofs.Ordered.{ascends}
use Rattle.mq_stats.specs.Departures.{Ascends, is_gone, stays}
use Rattle.mq_stats.proofs.occupancy.found.Goals as goal

pub gone_by-gone-requires-clause-order : goal.gone_by-gone-requires-clause-order
gone_by-gone-requires-clause-order c = subst Ascends (sym (c.deref.ensures.value ∙ c.in_ok-departures.ensures)) (ascends 0 c.args.fate.now)

pub overflow_sub-stayed : goal.overflow_sub-stayed
overflow_sub-stayed c =
    let gone = c.gone_by-gone.ensures ∙ ap (count_by (is_gone c.get.result.now c.loop-at.at)) c.deref.ensures.value in
    let all = told c.args.arrive.now c.args.fate.now _ c.loop-at.at _ _ _ c.requires.even c.requires.arrive c.requires.fate c.in_ok-departures.ensures c.get.ensures gone c.loop-at.invariant.stayed in
    omega arith

pub loop-at-preserved : goal.loop-at-preserved
loop-at-preserved c =
    let arrives = c.args.arrive.now in
    let fates = c.args.fate.now in
    let departures = c.in_ok-departures.departures.items in
    let at = c.loop-at.at in
    let time = c.get.result.now in
    let gone : c.gone_by-gone.result ≡ count_by (is_gone time at) departures = c.gone_by-gone.ensures ∙ ap (count_by (is_gone time at)) c.deref.ensures.value in
    let all = told arrives fates departures at time _ _ c.requires.even c.requires.arrive c.requires.fate c.in_ok-departures.ensures c.get.ensures gone c.loop-at.invariant.stayed in
    let there : c.loop-at.stayed - c.gone_by-gone.result ≡ count_by (departs_after time) (take at fates) = omega arith in
    record {
      so_far = founds-next c.loop-at.found.items c.push_reserved.new.self.items _ arrives fates at time _ _ c.get.ensures c.at.ensures there c.push_reserved.ensures.items c.loop-at.invariant.so_far;
      stayed = (λ k. c.loop-at.invariant.stayed k + c.one_if_stays-stayed.ensures k) ∙ sym (count-next stays fates at _ c.at.ensures);
      gone = λ later h. subst (λ n. n ≤ count_by (is_gone later (at + 1)) departures) (sym gone) (gone-next arrives departures at time later c.requires.arrive c.get.ensures h);
      len = omega arith;
      room = omega arith;
    }

pub overflow_cast-stayed : goal.overflow_cast-stayed
overflow_cast-stayed c = few-in-32 _ (less-few stays c.args.fate.now c.loop-at.at _ _ _ _ c.loop-at.invariant.stayed c.loop-at-test.true c.len-at-end.ensures c.requires.few)

pub overflow_add-stayed : goal.overflow_add-stayed
overflow_add-stayed c = few-in-64 _ (counted-few stays c.args.fate.now c.loop-at.at _ _ _ _ _ c.loop-at.invariant.stayed c.loop-at-test.true c.len-at-end.ensures c.requires.few c.one_if_stays-stayed.ensures)

pub returns : goal.returns
returns c = c.from_vec.ensures ∙ founds-ended _ _ c.args.arrive.now _ _ _ _ c.loop-at.invariant.so_far c.len-at-end.ensures c.loop-at-test.false
