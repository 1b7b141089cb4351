use Rattle.std.proofs.Common.{length, ap, arith, subst, sym}
use Rattle.std.specs.List.{AllByRecursion}
use Rattle.mq_base.proofs.lemmas.Each.{Each-weaker}
use Rattle.mq_exits.proofs.Making.{made-last, made-more}
use Rattle.mq_exits.proofs.OfWave.{CanFinish, IsEndIn, IsListIn, Wave}
use Rattle.mq_exits.proofs.turns.finished.Goals as goal

pub loop-one-init : goal.loop-one-init
loop-one-init c =
    let w : Wave = (c.requires.0, c.requires.1, c.requires.2) in
    record {
      are = record {
        fits = subst (AllByRecursion CanFinish) (sym c.into_vec-given.ensures) (Each-weaker (IsListIn w) CanFinish (λ one h. (w, h)) c.args.given c.requires.3);
        len = let none = ap length c.in-Ok.ensures.items in omega arith;
        of = λ k h. (h, subst (AllByRecursion (IsEndIn k)) (sym c.in-Ok.ensures.items) tt);
      };
      room = let room = c.in-Ok.ensures.capacity in let all = ap length c.into_vec-given.ensures in let len = c.len.ensures in omega arith;
    }

pub ended_in-requires : goal.ended_in-requires
ended_in-requires c =
    let can = made-last CanFinish IsListIn IsEndIn _ _ _ _ _ _ c.loop-one.invariant.are c.in-Some.ensures.items in
    (can.0.0, can.0.1, can.0.2, can.1)

pub loop-one-preserved : goal.loop-one-preserved
loop-one-preserved c = record {
  are = made-more CanFinish IsListIn IsEndIn _ _ _ _ _ _ _ _ c.loop-one.invariant.are c.in-Some.ensures.items (λ w h. subst (IsListIn w) c.ended_in.ensures h) c.push_reserved.ensures.items;
  room = let room = c.loop-one.invariant.room in let same = c.push_reserved.ensures.capacity in omega arith;
}

pub returns-clause-known : goal.returns-clause-known
returns-clause-known c plan rows ready h = subst (AllByRecursion (IsEndIn (plan, rows, ready))) (sym c.from_vec.ensures) (c.loop-one.invariant.are.of (plan, rows, ready) (subst (AllByRecursion (IsListIn (plan, rows, ready))) (sym c.into_vec-given.ensures) h)).1
