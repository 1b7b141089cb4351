use Rattle.std.proofs.Common.{inl, refl, subst, sym}
use Rattle.std.specs.List.{AllByRecursion as Each}
use Rattle.mq_engine.specs.Counting.{AreUntold, IsToldNode}
use Rattle.mq_engine.proofs.Kept.{putting-inside, putting-more}
use Rattle.mq_engine.proofs.counting.settle_told.Goals as goal

pub loop-one-init : goal.loop-one-init
loop-one-init c =
    record {
      stand = refl;
      came = c.requires.came;
      left = c.requires.left;
      waits = subst (AreUntold c.args.counting.now.stands.items) (sym c.into_vec-told.ensures) c.requires.waits;
      counting = λ plan rows form r w. (r, w);
      fewer = inl (refl, refl);
    }

pub put_told-requires-clause-came : goal.put_told-requires-clause-came
put_told-requires-clause-came c = (putting-inside _ _ _ _ _ _ _ _ _ c.in-Some.one c.loop-one.invariant c.in-Some.ensures.items).0

pub put_told-requires-clause-left : goal.put_told-requires-clause-left
put_told-requires-clause-left c = (putting-inside _ _ _ _ _ _ _ _ _ c.in-Some.one c.loop-one.invariant c.in-Some.ensures.items).1

pub put_told-requires-clause-stand : goal.put_told-requires-clause-stand
put_told-requires-clause-stand c = (putting-inside _ _ _ _ _ _ _ _ _ c.in-Some.one c.loop-one.invariant c.in-Some.ensures.items).2

pub loop-one-preserved : goal.loop-one-preserved
loop-one-preserved c = putting-more _ _ _ _ _ _ _ _ _ c.in-Some.one c.loop-one.invariant c.in-Some.ensures.items _ _ _ c.put_told.ensures

pub returns-clause-reached : goal.returns-clause-reached
returns-clause-reached c plan rows form r w = (c.loop-one.invariant.counting plan rows form r (subst (Each (IsToldNode plan rows form)) (sym c.into_vec-told.ensures) w)).0
