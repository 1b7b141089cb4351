use Rattle.std.proofs.Common.{ℕ, [], ◌∷◌, length, ap, sym, subst, arith, length-append}
use Rattle.std.specs.Prelude.{Contains}
use Rattle.std.specs.List.{AllByRecursion as Each}
use Rattle.mq_base.proofs.lemmas.Each.{Each-append, Each-back, Each-front}
use Rattle.mq_engine.specs.Counting.{IsToldAmong}
use Rattle.mq_engine.specs.Sources.{IsSourceArrived}
use Rattle.mq_engine.proofs.sources.all_sent.Goals as goal

pub sent_of-requires-clause-loaded : goal.sent_of-requires-clause-loaded
sent_of-requires-clause-loaded c = (Each-back _ c.pop.new.self.items (c.in-Some.one ∷ []) (subst (Each (IsSourceArrived c.args.arriving.now)) c.in-Some.ensures.items c.loop-one.invariant.left)).0.0.0

pub sent_of-requires-clause-source : goal.sent_of-requires-clause-source
sent_of-requires-clause-source c = (Each-back _ c.pop.new.self.items (c.in-Some.one ∷ []) (subst (Each (IsSourceArrived c.args.arriving.now)) c.in-Some.ensures.items c.loop-one.invariant.left)).0.1

pub push_reserved-requires : goal.push_reserved-requires
push_reserved-requires c =
    let size = c.loop-one.sent.ok.0 in
    let len = c.loop-one.invariant.len in
    let room = c.loop-one.invariant.room in
    let left = ap length c.in-Some.ensures.items in
    let more = length-append c.pop.new.self.items (c.in-Some.one ∷ []) in
    omega arith

pub loop-one-preserved : goal.loop-one-preserved
loop-one-preserved c =
    let s = c.args.arriving.now in
    let one = c.in-Some.one in
    let node = c.in-Ok-sent_of.node in
    let all = subst (Each (IsSourceArrived s)) c.in-Some.ensures.items c.loop-one.invariant.left in
    let is = λ (form : ℕ). IsToldAmong s.plan.now s.rows.now form s.ready.now in
    let own : (form : ℕ) → is form node = λ form. (subst (Contains s.ready.now) (sym c.in-Ok-sent_of.ensures.0) (Each-back _ c.pop.new.self.items (one ∷ []) all).0.0.1, c.in-Ok-sent_of.ensures.1 form) in
    let size = c.loop-one.invariant.len in
    let left = ap length c.in-Some.ensures.items in
    let less = length-append c.pop.new.self.items (one ∷ []) in
    let grown = ap length c.push_reserved.ensures.items in
    let more = length-append c.loop-one.sent.items (node ∷ []) in
    record {
      len = omega arith;
      left = Each-front _ c.pop.new.self.items (one ∷ []) all;
      made = λ form. subst (Each (is form)) (sym c.push_reserved.ensures.items) (Each-append (is form) c.loop-one.sent.items (node ∷ []) (c.loop-one.invariant.made form) (own form, tt));
      room = let room = c.loop-one.invariant.room in let same = c.push_reserved.ensures.capacity in omega arith;
    }

pub returns-clause-len : goal.returns-clause-len
returns-clause-len c =
    let count = c.loop-one.invariant.len in
    let none = c.in_default-pop.ensures.cases.0 in
    let size = c.loop-one.arrived.ok.0 in
    let all = ap length c.into_vec-arrived.ensures in
    let made = ap length c.from_vec.ensures in
    omega arith

pub returns-clause-known : goal.returns-clause-known
returns-clause-known c form = subst (Each _) (sym c.from_vec.ensures) (c.loop-one.invariant.made form)
