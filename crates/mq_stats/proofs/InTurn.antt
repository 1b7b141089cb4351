-- Parts of visits whose jobs leave in the order in which they came.
use Rattle.std.proofs.Common.{◌≡◌, ◌-◌, ℕ, List, [], ◌∷◌, drop, map, take, ap, arith, refl, sym, ◌∙◌}
use Rattle.std.specs.Prelude.{count_by}
use Rattle.std.proofs.lemmas.List.{drop-map, take-map}
use Rattle.mq_base.specs.Lists.{between}
use Rattle.mq_base.proofs.lemmas.Counts.{count-cons}
use Rattle.mq_core.specs.Results.{is_held, is_lost}
use Rattle.mq_core.specs.declared.model.Fate.{Fate}
use Rattle.mq_core.specs.declared.model.Fate.TheVariants.{Departs}

-- the fates of a part are those of its departures
pub fates-between : (fates : List Fate) (part departs : List ℕ) (from to : ℕ) → fates ≡ map (λ time. Departs time) part → part ≡ between from to departs → fates ≡ between from to (map (λ time. Departs time) departs)
fates-between fates part departs from to are is =
    are
    ∙ (ap (map (λ time. Departs time)) is
    ∙ (sym (take-map (λ time. Departs time) (to - from) (drop from departs)) ∙ ap (take (to - from)) (sym (drop-map (λ time. Departs time) from departs))))

-- where all depart, none is lost and none is held
pub none-stays : (departs : List ℕ) → (count_by is_lost (map (λ time. Departs time) departs) ≡ 0) × (count_by is_held (map (λ time. Departs time) departs) ≡ 0)
none-stays [] = (refl, refl)
none-stays (d ∷ departs) =
    let rest = none-stays departs in
    let lost = count-cons is_lost (Departs d) (map (λ time. Departs time) departs) in
    let held = count-cons is_held (Departs d) (map (λ time. Departs time) departs) in
    (omega arith, omega arith)
