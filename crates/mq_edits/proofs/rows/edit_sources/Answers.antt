use Rattle.std.proofs.Common.{◌≡◌, ◌∙◌, ◌++◌, ◌≤◌, ◌+◌, ap, arith, length, length-append, refl, sym, take, Some}
use Rattle.std.proofs.lemmas.Grind.{common_steps}
use Rattle.std.proofs.lemmas.List.{length_push, length-set, take-append-drop}
use Rattle.mq_edits.specs.Edited.{edited_by, source_of}
use Rattle.mq_edits.proofs.FormerFacts.{first_at, first_low, length_front, push_behind, set_behind, stays_either}
use Rattle.mq_edits.proofs.RowFacts.{more_made, place_at, there}
use Rattle.mq_edits.proofs.rows.edit_sources.Goals as goal
use Rattle.mq_edits.proofs.rows.edit_sources.Goals.{in-Set, in-Add+in_ok-push-in-Add}

pub loop-edit-init : goal.loop-edit-init
loop-edit-init c =
    let same : take c.args.from c.args.sources.now ++ c.in_ok-list.list.items ≡ c.args.sources.now =
    ap (λ l. take c.args.from c.args.sources.now ++ l) (c.in_ok-list.ensures ∙ c.requires.former) ∙ take-append-drop c.args.from c.args.sources.now in
    record { made = same; places = rw same c.requires.can.places; long = let l = ap length c.in_ok-list.ensures in omega arith }

pub overflow_sub-row : goal.overflow_sub-row
overflow_sub-row c =
    let at = there c.args.edits.now c.loop-edit.edit-index c.edit-item.result c.loop-edit-test.true c.edit-item.is in
    let first = first_at (length c.args.sources.now) c.args.edits.now c.loop-edit.edit-index _ _ _ _ (at ∙ ap Some c.in-Set.is) in
    omega (arith, first, c.requires.can.first)

pub index_mut-requires : goal.index_mut-requires
index_mut-requires c =
    let at = there c.args.edits.now c.loop-edit.edit-index c.edit-item.result c.loop-edit-test.true c.edit-item.is in
    let place = (place_at _ c.args.edits.now c.loop-edit.edit-index c.edit-item.result at c.loop-edit.invariant.places).0 in
    let less = rw c.in-Set.is at place in
    let first = first_at (length c.args.sources.now) c.args.edits.now c.loop-edit.edit-index _ _ _ _ (at ∙ ap Some c.in-Set.is) in
    let low = first_low (length c.args.sources.now) c.args.edits.now in
    let front = length_front c.args.from c.args.sources.now (omega (arith, low, c.requires.can.first)) in
    let both = length-append (take c.args.from c.args.sources.now) c.loop-edit.list.items in
    let can = c.requires.can.first in
    grind (arith, common_steps)

pub loop-edit-preserved : goal.loop-edit-preserved
loop-edit-preserved c =
    let at = there c.args.edits.now c.loop-edit.edit-index c.edit-item.result c.loop-edit-test.true c.edit-item.is in
    let i = c.loop-edit.invariant in
    let low = first_low (length c.args.sources.now) c.args.edits.now in
    let front = take c.args.from c.args.sources.now in
    let count : length front ≡ c.args.from = length_front c.args.from c.args.sources.now (omega (arith, low, c.requires.can.first)) in
    let both : (front ++ c.match-edit.list.items ≡ edited_by source_of (front ++ c.loop-edit.list.items) c.edit-item.result) × (length c.loop-edit.list.items ≤ length c.match-edit.list.items) = elim c.match-edit.branch [
      | in-Set w ↦
          let first = first_at (length c.args.sources.now) c.args.edits.now c.loop-edit.edit-index _ _ _ _ (at ∙ ap Some w.in-Set.is) in
          let same : length c.match-edit.list.items ≡ length c.loop-edit.list.items = ap (λ v. length v.items) w.list-is ∙ length-set _ _ _ in (
            ap (λ v. front ++ v.items) w.list-is ∙ set_behind front c.loop-edit.list.items c.args.from w.in-Set.row c.source_of-source.result count (omega (arith, first, c.requires.can.first))
                ∙ rw (c.source_of-source.ensures, w.in-Set.is) refl,
            omega arith,
          )
      | in-Add+in_ok-push-in-Add w ↦
          let is = ap (λ v. v.items) w.list-is ∙ w.in_ok-push-in-Add.ensures.items in
          let more : length c.match-edit.list.items ≡ length c.loop-edit.list.items + 1 = ap length is ∙ length_push _ _ in
          (ap (λ l. front ++ l) is ∙ push_behind front c.loop-edit.list.items c.source_of-source.result ∙ rw (c.source_of-source.ensures, w.in-Add.is) refl, omega arith)
    ] in
    let more = more_made source_of c.args.sources.now c.args.edits.now c.loop-edit.edit-index c.edit-item.result (front ++ c.loop-edit.list.items) (front ++ c.match-edit.list.items) at i.made i.places both.0 in
    record { made = more.0; places = more.1; long = let l = both.1 in let h = i.long in omega arith }

pub replace_from-requires : goal.replace_from-requires
replace_from-requires c = let low = first_low (length c.args.sources.now) c.args.edits.now in omega (arith, low, c.requires.can.first)

pub returns-clause-stays : goal.returns-clause-stays
returns-clause-stays c =
    let low = first_low (length c.args.sources.now) c.args.edits.now in
    stays_either c.replace_from.result c.args.from c.args.sources.now c.loop-edit.list.items c.args.former.now c.replace_from.new.self (omega (arith, low, c.requires.can.first)) c.requires.former
    c.loop-edit.invariant.long (rw (sym c.as_slice.ensures.value) c.replace_from.ensures.ok) c.replace_from.ensures.err
