use Rattle.std.proofs.Common.{◌≡◌, ◌∙◌, ◌++◌, ◌∷◌, [], ℕ, List, ap, arith, length, sym, Some, slice_get}
use Rattle.std.proofs.lemmas.List.{length-map}
use Rattle.mq_base.proofs.lemmas.Lists.{take-at}
use Rattle.mq_core.specs.declared.model.Fate.{Fate}
use Rattle.mq_core.specs.declared.model.Fate.TheVariants.{Departs, Held, Lost}
use Rattle.mq_stations.proofs.lemmas.Late.{departs_inj}
use Rattle.mq_redo.proofs.Staying.{departs-at}
use Rattle.mq_redo.proofs.departures.first_departures.Goals as goal

lost-none : (time : ℕ) → Lost ≡ Departs time → ⊥
lost-none time e = absurd cc

held-none : (time : ℕ) → Held ≡ Departs time → ⊥
held-none time e = absurd cc

pub at-requires : goal.at-requires
at-requires c =
    let h = c.requires in
    let many : length c.args.fates.now ≡ length h.0 = ap length h.1 ∙ length-map h.0 (λ time. Departs time) in
    let inside = c.visits-test.true in
    let few = h.2 in
    omega arith

pub unreachable-requires : goal.unreachable-requires
unreachable-requires c =
    let h = c.requires in
    let d = departs-at h.0 c.visits.at Lost (sym (ap (λ (fates : List Fate). slice_get fates c.visits.at) h.1) ∙ c.in-Lost.ensures) in
    lost-none d.0 d.1

pub unreachable-requires-in-Held : goal.unreachable-requires-in-Held
unreachable-requires-in-Held c =
    let h = c.requires in
    let d = departs-at h.0 c.visits.at Held (sym (ap (λ (fates : List Fate). slice_get fates c.visits.at) h.1) ∙ c.in-Held.ensures) in
    held-none d.0 d.1

pub visits-preserved : goal.visits-preserved
visits-preserved c = λ times is.
    let d = departs-at times c.visits.at (Departs c.in-Departs.time) (sym (ap (λ (fates : List Fate). slice_get fates c.visits.at) is) ∙ c.in-Departs.ensures) in
    let at : slice_get times c.visits.at ≡ Some c.in-Departs.time = d.2 ∙ ap Some (sym (departs_inj c.in-Departs.time d.0 d.1)) in
    c.in_ok-push-in-Departs.ensures.items ∙ (ap (λ ts. ts ++ c.in-Departs.time ∷ []) (c.visits.invariant times is) ∙ sym (take-at times c.visits.at c.in-Departs.time at))
