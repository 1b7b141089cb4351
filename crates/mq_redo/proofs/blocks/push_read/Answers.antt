use Rattle.std.proofs.Common.{◌++◌, [], ◌∷◌, map, take, ap, sym, subst, ◌∙◌, append_assoc}
use Rattle.std.proofs.lemmas.List.{map-append}
use Rattle.std.proofs.lemmas.Option.{get_or_from_slice_get, slice_get_within}
use Rattle.mq_base.proofs.lemmas.Lists.{take-at}
use Rattle.mq_redo.proofs.blocks.push_read.Goals as goal

pub time-requires : goal.time-requires
time-requires g c =
    let carry = c.get.result.now in
    subst (g.P.Timed.can_time c.args.step.now) (get_or_from_slice_get c.args.after.now c.reads.at carry carry c.get.ensures) (c.requires c.reads.at carry (slice_get_within c.args.after.now c.reads.at carry c.get.ensures))

pub reads-preserved : goal.reads-preserved
reads-preserved g c =
    let step = c.args.step.now in
    let time = g.P.Timed.time_of step in
    c.in_ok-push.ensures.items
    ∙ ((λ i. c.reads.invariant i ++ c.time.ensures i ∷ [])
    ∙ (append_assoc c.args.times.now.items (map time (take c.reads.at c.args.after.now)) (time c.get.result.now ∷ [])
    ∙ ap (λ ts. c.args.times.now.items ++ ts) (sym (map-append time (take c.reads.at c.args.after.now) (c.get.result.now ∷ [])) ∙ ap (map time) (sym (take-at c.args.after.now c.reads.at c.get.result.now c.get.ensures)))))
