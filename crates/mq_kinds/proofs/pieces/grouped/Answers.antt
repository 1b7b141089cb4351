use Rattle.std.proofs.Common.{◌≡◌, ◌∙◌, ◌*◌, ap, arith, take, drop, length, rules}
use Rattle.std.specs.List.{filter_map}
use Rattle.std.specs.Vec.Iter.{into_iter_items}
use Rattle.mq_kinds.proofs.Taking.{drop-more, items-more, room}
use Rattle.mq_kinds.proofs.pieces.grouped.Goals as goal

pub groups-init : goal.groups-init
groups-init g c = record {
  len = search rules;
  many = ap length c.new-groups.ensures;
  each = λ i d l. absurd (omega arith);
  rest = let none : 0 ≡ 0 * c.args.size = omega arith in c.into_iter-left.ensures.rest ∙ (c.into_vec.ensures ∙ ap (λ n. drop n c.args.made) none);
}

pub groups-preserved : goal.groups-preserved
groups-preserved g c =
    let was = c.groups.invariant in
    let made = c.args.made in
    let size = c.args.size in
    let taken = c.in_ok-group.ensures in
    let more = items-more (λ i group. group ≡ filter_map g.X.Content.within (take size (drop (i * size) made))) c.groups.groups c.push.new.self c.groups.counter c.in_ok-group.group was.many was.each
    (taken.first ∙ ap (λ left. filter_map g.X.Content.within (take size left)) was.rest) c.in_ok-push.ensures.ok in
    record {
      len = taken.len;
      many = more.0;
      each = more.1;
      rest = drop-more made (into_iter_items c.groups.left) (into_iter_items c.contents.new.left) c.groups.counter size was.rest taken.rest;
    }

pub contents-requires-clause-room : goal.contents-requires-clause-room
contents-requires-clause-room g c = room c.args.made (into_iter_items c.groups.left) c.groups.counter c.args.count c.args.size c.requires c.groups-test.true c.groups.invariant.rest
