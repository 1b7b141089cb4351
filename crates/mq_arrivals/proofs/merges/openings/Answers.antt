use Rattle.std.proofs.Common.{◌∷◌, [], length, subst, sym, ap, arith, length-append}
use Rattle.std.specs.List.{AllByRecursion}
use Rattle.mq_base.proofs.lemmas.Each.{Each-append}
use Rattle.mq_arrivals.specs.Merges.{IsComing}
use Rattle.mq_arrivals.proofs.merges.openings.Goals as goal

pub loop-at-preserved : goal.loop-at-preserved
loop-at-preserved c =
    let s = c.args.arriving.now in
    let one = c.opening.result in
    let e = c.in_ok-push.ensures.ok in
    record {
      len = let grown = ap length e in let more = length-append c.loop-at.all (one ∷ []) in let so_far = c.loop-at.invariant.len in omega arith;
      each = subst (AllByRecursion (IsComing s 2)) (sym e) (Each-append (IsComing s 2) c.loop-at.all (one ∷ []) c.loop-at.invariant.each (c.opening.ensures, tt));
    }
