use Rattle.std.proofs.Common.{◌≡◌, ◌<◌, length, map, ap, ◌∙◌, sym, arith}
use Rattle.std.proofs.lemmas.List.{length-map}
use Rattle.std.proofs.lemmas.Option.{slice_get-get_or, slice_get-map}
use Rattle.std.specs.Option.{option_map}
use Rattle.std.specs.Prelude.{slice_get}
use Rattle.mq_core.specs.FateLists.{fates_in}
use Rattle.mq_core.specs.declared.model.Fate.TheVariants.{Departs}
use Rattle.mq_core.proofs.fate_lists.FateSlice.at.Goals as goal

pub returns-in-Departures : goal.returns-in-Departures
returns-in-Departures c =
    let times = c.in-Departures.times.now in
    let index = c.args.index in
    let here : c.args.self.now ≡ map (λ time. Departs time) times = sym c.self.view_is ∙ ap fates_in c.in-Departures.is in
    let long = ap length here ∙ length-map times _ in
    let within : index < length times = omega arith in
    ap (λ fates. slice_get fates index) here ∙ (slice_get-map (λ time. Departs time) times index ∙ ap (option_map (λ time. Departs time)) (slice_get-get_or times index 0 within))

pub returns-in-Each : goal.returns-in-Each
returns-in-Each c =
    let fates = c.in-Each.fates.now in
    let index = c.args.index in
    let here : c.args.self.now ≡ fates = sym c.self.view_is ∙ ap fates_in c.in-Each.is in
    let long = ap length here in
    let within : index < length fates = omega arith in
    ap (λ l. slice_get l index) here ∙ slice_get-get_or fates index _ within
