use Rattle.std.proofs.Common.{[], ◌∷◌, length, ap, refl, sym, subst, arith, length-append}
use Rattle.std.specs.List.{AllByRecursion}
use Rattle.mq_base.proofs.lemmas.Each.{Each-weaker}
use Rattle.mq_engine.specs.Places.{IsPlace}
use Rattle.mq_engine.proofs.Placing.{IsPlaceAt, placing-more}
use Rattle.mq_engine.proofs.begun.all_placed.Goals as goal

pub push_reserved-requires : goal.push_reserved-requires
push_reserved-requires c =
    let size = c.loop-one.places.ok.0 in
    let len = c.loop-one.invariant.are.len in
    let room = c.loop-one.invariant.room in
    let left = ap length c.in-Some.ensures.items in
    let more = length-append c.pop.new.self.items (c.in-Some.one ∷ []) in
    omega arith

pub loop-one-preserved : goal.loop-one-preserved
loop-one-preserved c = record {
  are = placing-more c.args.arriving.now _ _ _ c.in-Some.one _ _ c.in-Some-pop.serving _ _ _ c.loop-one.invariant.are c.in-Some.ensures.items c.in-Some-pop.ensures.items c.push_reserved.ensures.items c.requires.arriving.read c.requires.arriving.block refl;
  room = let room = c.loop-one.invariant.room in let same = c.push_reserved.ensures.capacity in omega arith;
}

pub returns-clause-fit : goal.returns-clause-fit
returns-clause-fit c keep = let s = c.args.arriving.now in subst (AllByRecursion (IsPlace keep)) (sym c.from_vec.ensures) (Each-weaker (IsPlaceAt s) (IsPlace keep) (λ z h. h.0 keep) c.loop-one.places.items c.loop-one.invariant.are.made)

pub returns-clause-of : goal.returns-clause-of
returns-clause-of c = let s = c.args.arriving.now in subst (AllByRecursion _) (sym c.from_vec.ensures) (Each-weaker (IsPlaceAt s) _ (λ z h. h.1) c.loop-one.places.items c.loop-one.invariant.are.made)

pub unreachable-requires : goal.unreachable-requires
unreachable-requires c =
    let even = c.loop-one.invariant.are.servings_are.len in
    let some = ap length c.in-Some.ensures.items in
    let one = length-append c.pop.new.self.items (c.in-Some.one ∷ []) in
    let none = c.in_default-pop-2.ensures.cases.0 in
    let size = c.loop-one.servings.ok.0 in
    omega arith

pub returns-clause-len : goal.returns-clause-len
returns-clause-len c =
    let count = c.loop-one.invariant.are.len in
    let none = c.in_default-pop.ensures.cases.0 in
    let size = c.loop-one.arrived.ok.0 in
    let all = ap length c.into_vec-arrived.ensures in
    let made = ap length c.from_vec.ensures in
    omega arith
