use Rattle.std.proofs.Common.{◌≡◌, ◌∙◌, ◌∷◌, ◌++◌, [], List, ap, arith, length, length-append, map, subst, sym}
use Rattle.std.specs.List.{AllByRecursion as Each}
use Rattle.std.proofs.lemmas.List.{map-append}
use Rattle.mq_base.proofs.lemmas.Each.{Each-append, Each-back, Each-front}
use Rattle.mq_counts.specs.declared.counts.NodeCount.{NodeCount}
use Rattle.mq_exits.specs.Results.{IsResultOf}
use Rattle.mq_exits.specs.Turns.{result_given}
use Rattle.mq_exits.specs.declared.turns.Given.{Given}
use Rattle.mq_exits.specs.declared.working.NodeResult.{NodeResult}
use Rattle.mq_engine.specs.Counting.{AreTold, IsToldAmong}
use Rattle.mq_engine.proofs.Numbers.{told-last}
use Rattle.mq_engine.proofs.told.told_nodes.Goals as goal

pub loop-one-preserved : goal.loop-one-preserved
loop-one-preserved c =
    let was = c.loop-one.invariant in
    let rest = c.pop.new.self.items in
    let one = c.in-Some.one in
    let others = c.pop-in-Some.new.self.items in
    let count = c.in-Some-pop.count in
    let node = c.in-Ok-told_of.node in
    let left = ap length c.in-Some.ensures.items in
    let more = length-append rest (one ∷ []) in
    let counts = ap length c.in-Some-pop.ensures.items in
    let less = length-append others (count ∷ []) in
    let grown = ap length c.push_reserved.ensures.items in
    let longer = length-append c.loop-one.told.items (node ∷ []) in
    let len = was.len in
    let even = was.even in
    let room = was.room in
    let same = c.push_reserved.ensures.capacity in
    record {
      len = omega arith;
      even = omega arith;
      told = λ plan rows form ready nodes known are.
          let now = was.told plan rows form ready nodes known are in
          let parts : map result_given c.loop-one.given.items ≡ map result_given rest ++ result_given one ∷ [] = ap (map result_given) c.in-Some.ensures.items ∙ map-append result_given rest (one ∷ []) in
          let results = subst (Each (IsResultOf plan rows ready)) parts now.0 in
          let own = (Each-back (IsResultOf plan rows ready) (map result_given rest) (result_given one ∷ []) results).0 in
          let last =
          told-last plan rows form (map result_given rest) (result_given one) c.loop-one.counts.items others count (subst (λ (l : List NodeResult). AreTold plan rows form l c.loop-one.counts.items) parts now.1) c.in-Some-pop.ensures.items in (
            Each-front (IsResultOf plan rows ready) (map result_given rest) (result_given one ∷ []) results,
            last.1,
            subst (Each (IsToldAmong plan rows form ready)) (sym c.push_reserved.ensures.items)
                (Each-append (IsToldAmong plan rows form ready) c.loop-one.told.items (node ∷ []) now.2 (c.in-Ok-told_of.ensures.told plan rows form ready nodes own last.0, tt)),
          );
      room = omega arith;
    }

pub returns-clause-told : goal.returns-clause-told
returns-clause-told c plan rows form ready nodes known are =
    subst (Each (IsToldAmong plan rows form ready)) (sym c.from_vec.ensures)
    (c.loop-one.invariant.told plan rows form ready nodes (subst (λ (l : List Given). Each (IsResultOf plan rows ready) (map result_given l)) (sym c.into_vec-given.ensures) known)
    (subst (λ (z : List Given × List NodeCount). AreTold plan rows form (map result_given z.0) z.1) (λ k. (sym c.into_vec-given.ensures k, sym c.into_vec-counts.ensures k)) are)).2
