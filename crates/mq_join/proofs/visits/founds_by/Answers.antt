use Rattle.std.proofs.Common.{None, ◌∙◌, ◌+◌, ◌++◌, [], ap, arith, drop, take}
use Rattle.std.proofs.lemmas.Option.{slice_get-get_or}
use Rattle.mq_core.specs.Kinds.Join.{opens_from}
use Rattle.mq_join.proofs.Counting.{closed-next}
use Rattle.mq_join.proofs.Walks.{closed-few, found-end, found-next}
use Rattle.mq_join.proofs.visits.founds_by.Goals as goal

pub loop-at-init : goal.loop-at-init
loop-at-init c =
    let none = closed-few 0 c.args.matches.now c.requires.behind (omega arith) in
    record {
      so_far = ap (λ l. l ++ opens_from 0 [] c.args.matches.now) c.in_ok-founds.ensures.items;
      closed = omega arith;
      few = omega arith;
      len = c.in_ok-founds.ensures.len;
      room = c.in_ok-founds.ensures.capacity;
    }

pub overflow_add-closed : goal.overflow_add-closed
overflow_add-closed c =
    let at = c.loop-at.at in
    let next = closed-next at c.args.matches.now in
    let few = closed-few (at + 1) c.args.matches.now c.requires.behind (omega arith) in
    let value = c.requires.count at (omega arith) in
    omega arith

pub loop-at-preserved : goal.loop-at-preserved
loop-at-preserved c =
    let at = c.loop-at.at in
    let matches = c.args.matches.now in
    let next = closed-next at matches in
    let few = closed-few (at + 1) matches c.requires.behind (omega arith) in
    let value = c.requires.count at (omega arith) in
    record {
      so_far =
          ap (λ l. l ++ opens_from (at + 1) (take (at + 1) matches) (drop (at + 1) matches)) c.push_reserved.ensures.items
          ∙ found-next at c.loop-at.closed matches _ c.loop-at.founds.items _ c.requires.behind (slice_get-get_or matches at None (omega arith)) (omega arith) c.loop-at.invariant.closed c.loop-at.invariant.so_far;
      closed = omega arith;
      few = omega arith;
      len = omega arith;
      room = omega arith;
    }

pub returns : goal.returns
returns c = c.from_vec.ensures ∙ found-end c.loop-at.at c.args.matches.now c.loop-at.founds.items _ (omega arith) c.loop-at.invariant.so_far
