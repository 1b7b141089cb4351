use Rattle.std.proofs.Common.{◌∙◌, Some, ap, arith, length, refl, take}
use Rattle.std.proofs.lemmas.List.{length-take-le}
use Rattle.std.proofs.lemmas.List.Sums.{count_by-le-length}
use Rattle.std.specs.Prelude.{slice_index}
use Rattle.mq_core.specs.Kinds.Join.{is_whole_at}
use Rattle.mq_join.proofs.Rows.{none-counted}
use Rattle.mq_join.proofs.Steps.{replicate-many}
use Rattle.mq_join.proofs.Walks.{closings-held, closings-next}
use Rattle.mq_join.proofs.visits.count_closings.Goals as goal
use Rattle.mq_join.proofs.visits.count_closings.Goals.{in-Some, in_default}

pub loop-at-init : goal.loop-at-init
loop-at-init c = λ place l. ap (λ closings. slice_index closings place) c.requires.fresh ∙ none-counted (length c.args.matches.now) place

pub overflow_add-closings : goal.overflow_add-closings
overflow_add-closings c =
    let matches = c.args.matches.now in
    let place = c.in-Some.place in
    let whole = c.get.ensures ∙ ap Some c.in-Some.is in
    let inside = (c.requires.behind c.loop-at.at place whole).1 in
    let value = c.loop-at.invariant place inside in
    let some = count_by-le-length (is_whole_at place) (take c.loop-at.at matches) in
    let many = length-take-le c.loop-at.at matches (omega arith) in
    omega arith

pub loop-at-preserved : goal.loop-at-preserved
loop-at-preserved c =
    let matches = c.args.matches.now in
    let at = c.loop-at.at in
    let many = ap length c.requires.fresh ∙ replicate-many (length matches) 0 in
    elim c.match-get.branch [
      | in-Some w ↦
          let whole = c.get.ensures ∙ ap Some w.in-Some.is in
          let inside = (c.requires.behind at w.in-Some.place whole).1 in
          λ place l. ap (λ closings. slice_index closings place) w.closings-is ∙ closings-next (length matches) at w.in-Some.place matches c.loop-at.closings _ whole (omega arith) refl c.loop-at.invariant place l
      | in_default w ↦ λ place l. ap (λ closings. slice_index closings place) w.closings-is ∙ closings-held (length matches) at matches c.loop-at.closings (c.get.ensures ∙ ap Some w.in_default.is) c.loop-at.invariant place l
    ]
