use Rattle.std.proofs.Common.{◌≡◌, ◌++◌, [], ◌∷◌, length, get_or, set, sym, ap, ◌∙◌, arith, length-append}
use Rattle.std.proofs.lemmas.List.{append-nil, append_assoc}
use Rattle.mq_stations.proofs.lemmas.Lists.{Each-get}
use Rattle.mq_engine.specs.Places.{IsPlace}
use Rattle.mq_engine.proofs.Advancing.{advancing-at, advancing-begins, advancing-ends, advancing-step, group-at}
use Rattle.mq_engine.proofs.places.advance_all.Goals as goal

pub loop-group-init : goal.loop-group-init
loop-group-init g c = record {
  front = ([], sym (append-nil c.into_vec-groups.result.items));
  are = advancing-begins c.args.keep c.args.places.now.items _ (let l = c.requires.groups.len in let e = ap length c.into_vec-groups.ensures in omega arith);
}

pub advance-requires-clause-fit : goal.advance-requires-clause-fit
advance-requires-clause-fit g c κs within =
    let was = c.loop-group.invariant in
    let count = ap length c.in-Some.ensures.items ∙ length-append c.pop.new.self.items (c.in-Some.group ∷ []) in
    let all = ap length was.front.1 ∙ length-append c.loop-group.groups.items was.front.0 in
    let len = was.are.len in
    let first = c.requires.groups.len in
    let into = ap length c.into_vec-groups.ensures in
    let k = c.len-at.ensures in
    let size = c.pop.new.self.ok.0 in
    let there = advancing-at c.args.keep c.args.places.now.items c.loop-group.places.items c.len-at.result (length c.loop-group.groups.items) c.index_mut.result.now was.are (omega arith) (omega arith) c.index_mut.ensures.value in
    Each-get (IsPlace c.args.keep) c.args.places.now.items c.len-at.result c.index_mut.result.now c.requires.fit there

pub advance-requires-clause-made : goal.advance-requires-clause-made
advance-requires-clause-made g c κs within =
    let was = c.loop-group.invariant in
    let count = ap length c.in-Some.ensures.items ∙ length-append c.pop.new.self.items (c.in-Some.group ∷ []) in
    let all = ap length was.front.1 ∙ length-append c.loop-group.groups.items was.front.0 in
    let len = was.are.len in
    let first = c.requires.groups.len in
    let into = ap length c.into_vec-groups.ensures in
    let k = c.len-at.ensures in
    let size = c.pop.new.self.ok.0 in
    let there = advancing-at c.args.keep c.args.places.now.items c.loop-group.places.items c.len-at.result (length c.loop-group.groups.items) c.index_mut.result.now was.are (omega arith) (omega arith) c.index_mut.ensures.value in
    let group = group-at c.args.groups c.loop-group.groups.items was.front.0 c.pop.new.self.items c.in-Some.group c.len-at.result (sym c.into_vec-groups.ensures ∙ was.front.1) c.in-Some.ensures.items (omega arith) in
    c.requires.groups.each c.len-at.result c.index_mut.result.now c.in-Some.group there group

pub loop-group-preserved : goal.loop-group-preserved
loop-group-preserved g c =
    let was = c.loop-group.invariant in
    let ends = c.in-Some.ensures.items in
    let count = ap length ends ∙ length-append c.pop.new.self.items (c.in-Some.group ∷ []) in
    let all = ap length was.front.1 ∙ length-append c.loop-group.groups.items was.front.0 in
    let len = was.are.len in
    let first = c.requires.groups.len in
    let into = ap length c.into_vec-groups.ensures in
    let k = c.len-at.ensures in
    let size = c.pop.new.self.ok.0 in
    let same : c.len-at.result ≡ length c.pop.new.self.items = omega arith in
    record {
      front = (c.in-Some.group ∷ was.front.0, was.front.1 ∙ (ap (λ l. l ++ was.front.0) ends ∙ append_assoc c.pop.new.self.items (c.in-Some.group ∷ []) was.front.0));
      are = advancing-step c.args.keep c.args.places.now.items c.loop-group.places.items _ (length c.pop.new.self.items) (length c.loop-group.groups.items) c.index_mut.result.now c.advance.new.place was.are (omega arith) (omega arith) (c.index_mut.ensures.value ∙ ap (λ n. get_or c.loop-group.places.items n c.index_mut.result.now) same) c.in_default-advance.ensures (ap (λ n. set c.loop-group.places.items n c.advance.new.place) same);
    }

pub returns : goal.returns
returns g c = advancing-ends c.args.keep c.args.places.now.items c.loop-group.places.items (length c.loop-group.groups.items) (let x = c.in_default.ensures.cases in let size = c.loop-group.groups.ok.0 in omega arith) c.loop-group.invariant.are
