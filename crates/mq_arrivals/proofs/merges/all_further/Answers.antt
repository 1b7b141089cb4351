use Rattle.std.proofs.Common.{◌+◌, ◌∷◌, [], ap, arith, length, length-append, subst, sym}
use Rattle.std.specs.List.{AllByRecursion}
use Rattle.mq_base.proofs.lemmas.Each.{Each-append, Each-back, Each-front, Each-weaker}
use Rattle.mq_base.proofs.lemmas.Lists.{last-shorter}
use Rattle.mq_arrivals.specs.Merges.{IsComing}
use Rattle.mq_arrivals.proofs.Comings.{HasComeBy}
use Rattle.mq_arrivals.proofs.merges.all_further.Goals as goal

pub all_merged-requires-clause-comings : goal.all_merged-requires-clause-comings
all_merged-requires-clause-comings c = Each-weaker (IsComing c.args.arriving.now c.args.port) _ (λ z h. h.origin) c.args.comings c.requires.comings

pub loop-arrived-init : goal.loop-arrived-init
loop-arrived-init c =
    let s = c.args.arriving.now in
    let port = c.args.port in
    record {
      len = let none = ap length c.new-all.ensures in let all = ap length c.into_vec-left.ensures in let same = c.in_ok-merged.ensures.len in omega arith;
      come = subst (AllByRecursion (HasComeBy (s, port))) (sym c.into_vec-left.ensures) (c.in_ok-merged.ensures.come s port c.requires.comings);
      each = subst (AllByRecursion (IsComing s (port + 1))) (sym c.new-all.ensures) tt;
    }

pub further-requires-clause-before : goal.further-requires-clause-before
further-requires-clause-before c =
    let by = HasComeBy (c.args.arriving.now, c.args.port) in
    (Each-back by _ (c.in-Some.arrived ∷ []) (subst (AllByRecursion by) c.in-Some.ensures.items c.loop-arrived.invariant.come)).0

pub loop-arrived-preserved : goal.loop-arrived-preserved
loop-arrived-preserved c =
    let by = HasComeBy (c.args.arriving.now, c.args.port) in
    let is = IsComing c.args.arriving.now (c.args.port + 1) in
    let one = c.further.result in
    let i = c.loop-arrived.invariant in
    let e = c.in_ok-push.ensures.ok in
    record {
      len =
          let so_far = i.len in
          let fewer = ap length c.in-Some.ensures.items in
          let last = length-append c.pop.new.self.items (c.in-Some.arrived ∷ []) in
          let grown = ap length e in
          let more = length-append c.loop-arrived.all (one ∷ []) in
          omega arith;
      come = Each-front by _ (c.in-Some.arrived ∷ []) (subst (AllByRecursion by) c.in-Some.ensures.items i.come);
      each = subst (AllByRecursion is) (sym e) (Each-append is c.loop-arrived.all (one ∷ []) i.each (c.further.ensures.coming, tt));
    }

pub loop-arrived-smaller : goal.loop-arrived-smaller
loop-arrived-smaller c = last-shorter _ _ _ c.in-Some.ensures.items
