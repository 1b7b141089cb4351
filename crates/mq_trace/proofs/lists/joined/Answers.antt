use Rattle.std.proofs.Common.{◌≡◌, ◌∙◌, ◌+◌, ◌-◌, ◌++◌, ◌∷◌, [], arith, ap, sym, subst, get_or, length, length-append}
use Rattle.mq_crew.specs.Crew.{AreAll}
use Rattle.mq_trace.specs.Joined.{IsListAt, all_numbers}
use Rattle.mq_trace.proofs.ListFacts.{all_last, columns_more}
use Rattle.mq_trace.proofs.lists.joined.Goals.{in_default-via-in-Some+in_default, in_default-via-in_default, in_default-pop-via-in-Some+in_default, in_default-pop-via-in_default}
use Rattle.mq_trace.proofs.lists.joined.Goals as goal

pub loop-list-init : goal.loop-list-init
loop-list-init g c =
    let columns = c.args.lists.now.columns in
    let is = IsListAt columns c.args.lists.now.read.now in
    let whole = subst (AreAll is (columns + 2)) (sym c.into_vec-left.ensures) c.in_ok-made.ensures in
    let sources = all_last is _ _ c.pop.new.self.items _ c.in-Some-Sources.ensures.items whole in
    let times = all_last is _ _ c.pop-2.new.self.items _ c.in-Some-Numbers.ensures.items sources.1 in
    let first = length-append c.pop.new.self.items (c.in-Some-Sources.field-0 ∷ []) in
    let second = length-append c.pop-2.new.self.items (c.in-Some-Numbers.field-0 ∷ []) in
    record {
      rest = times.1;
      count = omega (arith, whole.len, ap length c.in-Some-Sources.ensures.items, first, ap length c.in-Some-Numbers.ensures.items, second, ap length c.in_ok-demands.ensures.items);
      room = omega (arith, c.in_ok-demands.ensures.capacity);
      done = λ k less. absurd (omega (arith, less, ap length c.in_ok-demands.ensures.items));
    }

pub unreachable-requires-in-Sources : goal.unreachable-requires-in-Sources
unreachable-requires-in-Sources g c =
    let i = c.loop-list.invariant in
    let is = IsListAt c.args.lists.now.columns c.args.lists.now.read.now in
    let rest = c.pop-in-loop-list.new.self.items in
    let popped : c.loop-list.left.items ≡ rest ++ c.in-Some.list ∷ [] = c.in-Some.ensures.items in
    let last = all_last is _ _ rest _ popped i.rest in
    let sources = subst (is (length rest)) c.in-Sources.is last.0 in
    omega (arith, sources.0, i.count, ap length popped, length-append rest (c.in-Some.list ∷ []))

pub loop-list-preserved : goal.loop-list-preserved
loop-list-preserved g c =
    let i = c.loop-list.invariant in
    let columns = c.args.lists.now.columns in
    let read = c.args.lists.now.read.now in
    let is = IsListAt columns read in
    let rest = c.pop-in-loop-list.new.self.items in
    let demands = c.loop-list.demands.items in
    let values = c.in-Numbers.values in
    let popped : c.loop-list.left.items ≡ rest ++ c.in-Some.list ∷ [] = c.in-Some.ensures.items in
    let last = all_last is _ _ rest _ popped i.rest in
    let numbers = subst (is (length rest)) c.in-Numbers.is last.0 in
    let fewer = length-append rest (c.in-Some.list ∷ []) in
    let place : columns - length rest ≡ length demands + 1 = omega (arith, i.count, ap length popped, fewer) in
    record {
      rest = last.1;
      count = omega (arith, i.count, ap length popped, fewer, ap length c.push_reserved.ensures.items, length-append demands (values ∷ []));
      room = omega (arith, i.room, c.push_reserved.ensures.capacity);
      done = columns_more read demands _ values c.push_reserved.ensures.items i.done (numbers.1 ∙ ap (λ place. all_numbers place read) place);
    }

pub returns : goal.returns
returns g c =
    let i = c.loop-list.invariant in
    let columns = c.args.lists.now.columns in
    let read = c.args.lists.now.read.now in
    let is = IsListAt columns read in
    let whole = subst (AreAll is (columns + 2)) (sym c.into_vec-left.ensures) c.in_ok-made.ensures in
    let sources = all_last is _ _ c.pop.new.self.items _ c.in-Some-Sources.ensures.items whole in
    let times = all_last is _ _ c.pop-2.new.self.items _ c.in-Some-Numbers.ensures.items sources.1 in
    let first = length-append c.pop.new.self.items (c.in-Some-Sources.field-0 ∷ []) in
    let second = length-append c.pop-2.new.self.items (c.in-Some-Numbers.field-0 ∷ []) in
    let place : columns - length c.pop-2.new.self.items ≡ 0 = omega (arith, whole.len, ap length c.in-Some-Sources.ensures.items, first, ap length c.in-Some-Numbers.ensures.items, second) in
    let all : length c.loop-list.demands.items ≡ columns = omega (arith, i.count, c.in_default-pop-2.ensures.cases, c.loop-list.left.ok) in
    record {
      sources = (subst (is _) c.in-Some-Sources.field-0-is sources.0).1;
      times = (subst (is _) c.in-Some-Numbers.field-0-is times.0).1 ∙ ap (λ place. all_numbers place read) place;
      width = ap length c.from_vec.ensures ∙ all;
      values = λ k less. ap (λ l. get_or l k []) c.from_vec.ensures ∙ i.done k (omega (arith, all, less));
    }

pub unreachable-requires : goal.unreachable-requires
unreachable-requires g c =
    let columns = c.args.lists.now.columns in
    let is = IsListAt columns c.args.lists.now.read.now in
    let whole = subst (AreAll is (columns + 2)) (sym c.into_vec-left.ensures) c.in_ok-made.ensures in
    elim c.in_default.branch [
      | in_default-via-in-Some+in_default w ↦
          let popped : c.into_vec-left.result.items ≡ c.pop.new.self.items ++ w.in_default.field-0 ∷ [] = rw w.in_default.is at c.pop.ensures.items in
          let last = (all_last is _ _ c.pop.new.self.items _ popped whole).0 in
          let place : length c.pop.new.self.items ≡ columns + 1 = omega (arith, whole.len, ap length popped, length-append c.pop.new.self.items (w.in_default.field-0 ∷ [])) in
          grind (arith, last, place)
      | in_default-via-in_default w ↦
          let none = rw w.in_default.is at c.pop.ensures.cases in
          omega (arith, none.0, whole.len, c.into_vec-left.result.ok.0)
    ]

pub unreachable-requires-in_default-pop : goal.unreachable-requires-in_default-pop
unreachable-requires-in_default-pop g c =
    let columns = c.args.lists.now.columns in
    let is = IsListAt columns c.args.lists.now.read.now in
    let whole = subst (AreAll is (columns + 2)) (sym c.into_vec-left.ensures) c.in_ok-made.ensures in
    let sources = all_last is _ _ c.pop.new.self.items _ c.in-Some-Sources.ensures.items whole in
    let first = length-append c.pop.new.self.items (c.in-Some-Sources.field-0 ∷ []) in
    let size : length c.pop.new.self.items ≡ columns + 1 = omega (arith, whole.len, ap length c.in-Some-Sources.ensures.items, first) in
    elim c.in_default-pop.branch [
      | in_default-pop-via-in-Some+in_default w ↦
          let popped : c.pop.new.self.items ≡ c.pop-2.new.self.items ++ w.in_default-pop.field-0 ∷ [] = rw w.in_default-pop.is at c.pop-2.ensures.items in
          let last = (all_last is _ _ c.pop-2.new.self.items _ popped sources.1).0 in
          let place : length c.pop-2.new.self.items ≡ columns = omega (arith, size, ap length popped, length-append c.pop-2.new.self.items (w.in_default-pop.field-0 ∷ [])) in
          grind (arith, last, place)
      | in_default-pop-via-in_default w ↦
          let none = rw w.in_default-pop.is at c.pop-2.ensures.cases in
          omega (arith, none.0, size, c.pop.new.self.ok.0)
    ]
