use Rattle.std.proofs.Common.{◌≡◌, ◌-◌, drop, take, map, ap, ◌∙◌, sym}
use Rattle.std.proofs.lemmas.List.{drop-map, take-map}
use Rattle.mq_core.specs.FateLists.{fates_kept}
use Rattle.mq_core.specs.declared.model.Fate.TheVariants.{Departs}
use Rattle.mq_core.proofs.fate_lists.Fates.part.Goals as goal

pub returns-in-Departures : goal.returns-in-Departures
returns-in-Departures c =
    let times = c.in-Departures.times in
    let from = c.args.from in
    let many = c.args.to - from in
    let here : c.args.self.now ≡ map (λ time. Departs time) times = sym c.self.view_is ∙ ap fates_kept c.in-Departures.is in
    ap (λ l. map (λ time. Departs time) (take many (drop from l))) c.as_slice.ensures
    ∙ (sym (take-map (λ time. Departs time) many (drop from times))
    ∙ (ap (take many) (sym (drop-map (λ time. Departs time) from times)) ∙ ap (λ fates. take many (drop from fates)) (sym here)))
