use Rattle.std.proofs.Common.{◌≡◌, false, true, ◌<◌, ◌++◌, [], ◌∙◌, ap, arith, take, drop, refl, sym, length, length-drop, vec_len, vec_capacity}
use Rattle.std.proofs.lemmas.List.{append-nil}
use Rattle.std.specs.List.{cons_option, filter_map}
use Rattle.std.specs.Vec.Iter.{into_iter_items, into_iter_len}
use Rattle.mq_kinds.proofs.Taking.{content-more}
use Rattle.mq_kinds.proofs.pieces.contents.Goals as goal
use Rattle.mq_kinds.proofs.pieces.contents.Goals.{in-Some+in-Some-taken, in-Some+in_default-taken, in_default}

pub takes-init : goal.takes-init
takes-init g c =
    let new = c.in_ok-contents.ensures in
    let none = new.len in
    record { len = c.requires.len; short = omega (arith, none); room = new.capacity; first = new.items; rest = refl }

pub push_reserved-requires : goal.push_reserved-requires
push_reserved-requires g c =
    let short = c.takes.invariant.short in
    let room = c.takes.invariant.room in
    let less = c.takes-test.true in
    omega (arith, short, room, less)

pub takes-preserved : goal.takes-preserved
takes-preserved g c =
    let was = c.takes.invariant in
    let all = into_iter_items c.args.left.now in
    let left = into_iter_items c.takes.left in
    let rest = into_iter_items c.next.new.self in
    let before = c.takes.contents.items in
    let len = was.len in
    let short = was.short in
    let room = was.room in
    elim c.match-next.branch [
      | in-Some+in-Some-taken w ↦
          let next = w.in-Some.ensures in
          let pushed = w.push_reserved.ensures in
          let more = content-more g.X.Content.within all c.takes.counter w.in-Some.piece left rest w.taken.result before c.match-next.contents.items was.rest next.items w.taken.ensures was.first
          ((λ k. (w.contents-is k).items) ∙ (pushed.items ∙ ap (λ o. before ++ cons_option o []) (sym w.in-Some-taken.is))) in
          let count = ap vec_len w.contents-is ∙ pushed.len in
          let size = ap vec_capacity w.contents-is ∙ pushed.capacity in
          let gone = next.len in
          let one = ap length next.items in
          record { len = omega (arith, gone, one, len); short = omega (arith, count, short); room = omega (arith, size, room); first = more.0; rest = more.1 }
      | in-Some+in_default-taken w ↦
          let next = w.in-Some.ensures in
          let more = content-more g.X.Content.within all c.takes.counter w.in-Some.piece left rest w.taken.result before c.match-next.contents.items was.rest next.items w.taken.ensures was.first
          ((λ k. (w.contents-is k).items) ∙ (sym (append-nil before) ∙ ap (λ o. before ++ cons_option o []) (sym w.in_default-taken.is))) in
          let count = ap vec_len w.contents-is in
          let size = ap vec_capacity w.contents-is in
          let gone = next.len in
          let one = ap length next.items in
          record { len = omega (arith, gone, one, len); short = omega (arith, count, short); room = omega (arith, size, room); first = more.0; rest = more.1 }
      | in_default w ↦
          let variant = w.in_default.ensures.variant in
          let less = c.takes-test.true in
          let long = c.requires.room in
          let left_len = ap length was.rest ∙ length-drop c.takes.counter all in
          let some : 0 < into_iter_len c.takes.left = omega (arith, len, left_len, less, long) in
          let e : false ≡ true = variant.1 some in
          absurd cc
    ]

pub returns-clause-first : goal.returns-clause-first
returns-clause-first g c =
    let all : c.takes.counter ≡ c.args.count = omega (arith, c.takes-test.false, c.takes.auto.counter-end) in
    c.from_vec.ensures ∙ (c.takes.invariant.first ∙ ap (λ n. filter_map g.X.Content.within (take n (into_iter_items c.args.left.now))) all)

pub returns-clause-rest : goal.returns-clause-rest
returns-clause-rest g c =
    let all : c.takes.counter ≡ c.args.count = omega (arith, c.takes-test.false, c.takes.auto.counter-end) in
    c.takes.invariant.rest ∙ ap (λ n. drop n (into_iter_items c.args.left.now)) all

pub returns-clause-len : goal.returns-clause-len
returns-clause-len g c = c.takes.invariant.len
