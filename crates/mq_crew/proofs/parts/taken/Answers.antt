use Rattle.std.proofs.Common.{◌≡◌, ◌∙◌, ap, arith, drop, length, length-drop, refl, take}
use Rattle.std.specs.Vec.Iter.{into_iter_items}
use Rattle.mq_crew.proofs.Grouping.{taken-more}
use Rattle.mq_crew.proofs.parts.taken.Goals as goal

pub takes-init : goal.takes-init
takes-init g c = record { len = c.requires.len; first = c.in_ok-group.ensures.items; rest = refl }

pub unreachable-requires : goal.unreachable-requires
unreachable-requires g c =
    let long = c.takes.invariant.len in
    let rest = ap length c.takes.invariant.rest in
    let gone = length-drop c.takes.counter (into_iter_items c.args.left.now) in
    let none = c.in_default.ensures.cases in
    let room = c.requires.room in
    let less = c.takes-test.true in
    omega arith

pub takes-preserved : goal.takes-preserved
takes-preserved g c =
    let was = c.takes.invariant in
    let more = taken-more (into_iter_items c.args.left.now) c.takes.counter c.in-Some.item _ _ _ _ was.rest c.in-Some.ensures.items was.first c.push_reserved.ensures.items in
    record {
      len =
          let long = was.len in
          let gone = c.in-Some.ensures.len in
          let short = ap length c.in-Some.ensures.items in
          omega arith;
      first = more.0;
      rest = more.1;
    }

pub returns-clause-first : goal.returns-clause-first
returns-clause-first g c =
    let all : c.takes.counter ≡ c.args.count = omega (arith, c.takes-test.false, c.takes.auto.counter-end) in
    c.from_vec.ensures ∙ (c.takes.invariant.first ∙ ap (λ n. take n (into_iter_items c.args.left.now)) all)

pub returns-clause-rest : goal.returns-clause-rest
returns-clause-rest g c =
    let all : c.takes.counter ≡ c.args.count = omega (arith, c.takes-test.false, c.takes.auto.counter-end) in
    c.takes.invariant.rest ∙ ap (λ n. drop n (into_iter_items c.args.left.now)) all

pub returns-clause-len : goal.returns-clause-len
returns-clause-len g c = c.takes.invariant.len
