use Rattle.std.proofs.Common.{◌≡◌, ◌∙◌, ◌+◌, ◌-◌, [], ◌∷◌, Some, append-nil, sym, ap, arith, count_by, drop, length, subst, take}
use Rattle.std.specs.Vec.{vec_len, vec_capacity}
use Rattle.mq_base.proofs.lemmas.Lists.{drop_at}
use Rattle.mq_core.specs.OnceOut.{departs_after}
use Rattle.mq_stats.specs.Departures.{departures_rise}
use Rattle.mq_stats.proofs.Founds.{founds-next}
use Rattle.mq_stats.proofs.InOrder.{AreGoing, falls, goes-on, going-departs, going-lost, left-next, still-going}
use Rattle.mq_stats.proofs.Passing.{up_to}
use Rattle.mq_stats.proofs.in_order.found_in_order.Goals.{in-Departs+else-time-latest, in-Lost}
use Rattle.mq_stats.proofs.in_order.found_in_order.Goals as goal

pub returns-then-time-latest-clause-none : goal.returns-then-time-latest-clause-none
returns-then-time-latest-clause-none c =
    let here = drop_at c.args.fate.now c.loop-at.at _ (c.at.ensures ∙ ap (λ x. Some x) c.in-Departs.is) in
    sym c.loop-at.invariant.rises ∙ (ap (departures_rise c.loop-at.latest) here ∙ falls c.loop-at.latest c.in-Departs.time (drop (c.loop-at.at + 1) c.args.fate.now) c.if-time-latest.true)

pub returns-in-Held-clause-none : goal.returns-in-Held-clause-none
returns-in-Held-clause-none c =
    let here = drop_at c.args.fate.now c.loop-at.at _ (c.at.ensures ∙ ap (λ x. Some x) c.in-Held.is) in
    sym c.loop-at.invariant.rises ∙ ap (departures_rise c.loop-at.latest) here

pub loop-at-preserved : goal.loop-at-preserved
loop-at-preserved c =
    let arrives = c.args.arrive.now in
    let fates = c.args.fate.now in
    let at = c.loop-at.at in
    let time = c.get.result.now in
    let departs = c.loop-at.departs.items in
    let left : c.passed_by-left.result ≡ up_to time departs = c.passed_by-left.ensures ∙ ap (up_to time) c.deref.ensures.value in
    let told = still-going time c.loop-at.latest c.passed_by-left.result (take at fates) departs c.loop-at.invariant.going left in
    let found : c.len-in-loop-at.result - c.passed_by-left.result ≡ count_by (departs_after time) (take at fates) = let many = ap length c.deref.ensures.value in omega (arith, c.deref.ensures.len, c.len-in-loop-at.ensures) in
    let so_far = founds-next c.loop-at.found.items c.push_reserved.new.self.items _ arrives fates at time _ c.at.result c.get.ensures c.at.ensures found c.push_reserved.ensures.items c.loop-at.invariant.so_far in
    let rest = drop (at + 1) fates in
    elim c.match-at.branch [
      | in-Departs+else-time-latest w ↦
          let is = c.at.ensures ∙ ap (λ x. Some x) w.in-Departs.is in
          let here = drop_at fates at _ is in
          let more = ap (λ v. v.items) w.departs-is ∙ w.push_reserved-in-Departs.ensures.items in
          let len = ap vec_len w.departs-is in
          let room = ap vec_capacity w.departs-is in
          record {
            so_far = so_far;
            rises = ap (λ n. departures_rise n rest) w.latest-is ∙ (sym (goes-on c.loop-at.latest w.in-Departs.time rest w.if-time-latest.false) ∙ (sym (ap (departures_rise c.loop-at.latest) here) ∙ c.loop-at.invariant.rises));
            going = subst (λ n. AreGoing (take (at + 1) fates) n c.match-at.departs.items) (sym w.latest-is) (going-departs fates at c.loop-at.latest w.in-Departs.time departs c.match-at.departs.items is w.if-time-latest.false more c.loop-at.invariant.going);
            left = λ later h. left-next arrives departs c.match-at.departs.items (w.in-Departs.time ∷ []) at time later c.passed_by-left.result c.requires.arrive c.get.ensures h left more;
            len = omega arith;
            room = omega arith;
            many = omega arith;
            wide = omega arith;
          }
      | in-Lost w ↦
          let is = c.at.ensures ∙ ap (λ x. Some x) w.in-Lost.is in
          let here = drop_at fates at _ is in
          let same = ap (λ v. v.items) w.departs-is in
          let len = ap vec_len w.departs-is in
          let room = ap vec_capacity w.departs-is in
          let going = going-lost fates at c.loop-at.latest departs is c.loop-at.invariant.going in
          record {
            so_far = so_far;
            rises = ap (λ n. departures_rise n rest) w.latest-is ∙ (sym (ap (departures_rise c.loop-at.latest) here) ∙ c.loop-at.invariant.rises);
            going = subst (λ n. AreGoing (take (at + 1) fates) n c.match-at.departs.items) (sym w.latest-is) (subst (AreGoing (take (at + 1) fates) c.loop-at.latest) (sym same) going);
            left = λ later h. left-next arrives departs c.match-at.departs.items [] at time later c.passed_by-left.result c.requires.arrive c.get.ensures h left (same ∙ sym (append-nil departs));
            len = omega arith;
            room = omega arith;
            many = omega arith;
            wide = omega arith;
          }
    ]
