use Rattle.std.proofs.Common.{◌+◌, List, [], length, take, drop, ap, arith, sym, ◌∙◌, subst}
use Rattle.std.specs.List.{AllByRecursion}
use Rattle.std.specs.Vec.Iter.{into_iter_items}
use Rattle.mq_base.proofs.lemmas.Each.{Each-drop}
use Rattle.std.proofs.lemmas.List.{take_all}
use Rattle.std.proofs.lemmas.Option.{slice_get-get_or}
use Rattle.std.specs.Prelude.{Some}
use Rattle.mq_crew.specs.Crew.{AreAll, AreGroups, IsPieceOf, total_size}
use Rattle.mq_crew.proofs.Grouping.{first-group, group-more, no-groups, part-here, rest-apart}
use Rattle.mq_crew.proofs.parts.grouped.Goals as goal

pub parts-init : goal.parts-init
parts-init g c =
    let size = g.P.Pieces.size in
    let is_piece = g.P.Pieces.is_piece in
    let items = c.into_iter-left.ensures.rest in
    record {
      len = c.into_iter-left.ensures.len ∙ (c.into_vec.result.ok.0 ∙ ap length (sym items));
      groups = subst (AreGroups size is_piece []) (sym c.new-groups.ensures) (no-groups size is_piece);
      rest = subst (AreAll (IsPieceOf size is_piece c.args.parts.now) (total_size size c.args.parts.now)) (sym (items ∙ c.into_vec.ensures)) c.requires.all;
    }

pub count-requires : goal.count-requires
count-requires g c =
    let parts = c.args.parts.now in
    let here = part-here g.P.Pieces.size g.P.Pieces.is_piece parts c.parts.part-index c.part-item.result c.parts-test.true c.part-item.is in
    (subst (AllByRecursion g.P.Pieces.fit) here (Each-drop g.P.Pieces.fit c.parts.part-index parts c.requires.fit)).0

pub taken-requires-clause-len : goal.taken-requires-clause-len
taken-requires-clause-len g c = c.parts.invariant.len

pub taken-requires-clause-room : goal.taken-requires-clause-room
taken-requires-clause-room g c =
    let here = ap (total_size g.P.Pieces.size) (part-here g.P.Pieces.size g.P.Pieces.is_piece c.args.parts.now c.parts.part-index c.part-item.result c.parts-test.true c.part-item.is) in
    let count = c.count.ensures in
    let left = c.parts.invariant.rest.len in
    omega arith

pub parts-preserved : goal.parts-preserved
parts-preserved g c =
    let size = g.P.Pieces.size in
    let is_piece = g.P.Pieces.is_piece in
    let parts = c.args.parts.now in
    let part = c.part-item.result in
    let here = part-here size is_piece parts c.parts.part-index part c.parts-test.true c.part-item.is in
    let apart = first-group size is_piece part (drop (c.parts.part-index + 1) parts) (into_iter_items c.parts.left) (rest-apart size is_piece parts c.parts.part-index part _ here c.parts.invariant.rest) in
    let items = into_iter_items c.parts.left in
    record {
      len = c.in_ok-group.ensures.len;
      groups =
          group-more size is_piece parts c.parts.part-index part c.parts.groups c.push.new.self c.in_ok-group.group (slice_get-get_or parts c.parts.part-index part c.parts-test.true ∙ ap Some (sym c.part-item.is)) c.parts.invariant.groups
          (subst (AreAll (is_piece part) (size part)) (sym (c.in_ok-group.ensures.first ∙ ap (λ n. take n items) c.count.ensures)) apart.0) c.in_ok-push.ensures.ok;
      rest =
          subst (AreAll (IsPieceOf size is_piece (drop (c.parts.part-index + 1) parts)) (total_size size (drop (c.parts.part-index + 1) parts))) (sym (c.in_ok-group.ensures.rest ∙ ap (λ n. drop n items) c.count.ensures)) apart.1;
    }

pub returns : goal.returns
returns g c =
    subst (λ (l : List g.row.P.Denot). AreGroups g.P.Pieces.size g.P.Pieces.is_piece l c.parts.groups) (take_all c.parts.part-index c.args.parts.now c.parts-test.false) c.parts.invariant.groups
