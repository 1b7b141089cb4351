use Rattle.std.proofs.Common.{length, ap, arith, subst, sym}
use Rattle.std.specs.List.{AllByRecursion}
use Rattle.mq_exits.proofs.Making.{made-last, made-more}
use Rattle.mq_exits.proofs.OfWave.{IsGivenIn}
use Rattle.mq_exits.specs.Loads.{IsLoadOf}
use Rattle.mq_engine.specs.Places.{HaveEnded, IsPlace}
use Rattle.mq_engine.specs.declared.places.Place.{Place}
use Rattle.mq_engine.proofs.Placing.{IsPlaceIn, both-each}
use Rattle.mq_engine.proofs.ready.all_given.Goals as goal

pub loop-place-init : goal.loop-place-init
loop-place-init c = record {
  are = record {
    fits = c.requires;
    len = let none = ap length c.in-Ok.ensures.items in omega arith;
    of = λ k h. (h, subst (AllByRecursion (IsGivenIn k)) (sym c.in-Ok.ensures.items) tt);
  };
  room = let room = c.in-Ok.ensures.capacity in let len = c.len.ensures in omega arith;
}

pub given_at-requires : goal.given_at-requires
given_at-requires c = made-last HaveEnded IsPlaceIn IsGivenIn _ _ _ _ _ _ c.loop-place.invariant.are c.in-Some.ensures.items

pub loop-place-preserved : goal.loop-place-preserved
loop-place-preserved c = record {
  are = made-more HaveEnded IsPlaceIn IsGivenIn _ _ _ _ _ _ _ _ c.loop-place.invariant.are c.in-Some.ensures.items (λ k h. c.given_at.ensures k.0 k.1.0 k.1.1 k.1.2 h.0 h.1) c.push_reserved.ensures.items;
  room = let room = c.loop-place.invariant.room in let same = c.push_reserved.ensures.capacity in omega arith;
}

pub returns-clause-given : goal.returns-clause-given
returns-clause-given c keep plan rows ready fit of =
    subst (AllByRecursion (IsGivenIn (keep, (plan, rows, ready)))) (sym c.from_vec.ensures)
    (c.loop-place.invariant.are.of (keep, (plan, rows, ready)) (both-each (IsPlace keep) (λ (p : Place). IsLoadOf plan rows ready p.held) c.args.places.items fit of)).1
