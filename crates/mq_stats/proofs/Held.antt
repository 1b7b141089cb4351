-- Held visits: how many there are beside the others, and that without any the span of the run changes nothing.
use Rattle.std.proofs.Common.{◌≡◌, ℕ, ◌+◌, List, [], ◌∷◌, length, refl, ap, arith}
use Rattle.std.specs.Prelude.{count_by}
use Rattle.mq_core.specs.Results.{is_departed, is_held, is_lost}
use Rattle.mq_core.specs.Sequences.{sequence_sojourn, sequence_sojourns}
use Rattle.mq_core.specs.declared.model.Fate.{Fate}
use Rattle.mq_core.specs.declared.model.Fate.TheVariants.{Departs, Held, Lost}
use Rattle.mq_base.proofs.lemmas.Counts.{count-cons}

-- each visit departed, was lost, or is held
pub fates-counted : (fates : List Fate) → count_by is_departed fates + count_by is_lost fates + count_by is_held fates ≡ length fates
fates-counted [] = refl
fates-counted (Departs time ∷ fates) =
    let rest = fates-counted fates in
    let departed = count-cons is_departed (Departs time) fates in
    let lost = count-cons is_lost (Departs time) fates in
    let held = count-cons is_held (Departs time) fates in
    omega arith
fates-counted (Lost ∷ fates) =
    let rest = fates-counted fates in
    let departed = count-cons is_departed Lost fates in
    let lost = count-cons is_lost Lost fates in
    let held = count-cons is_held Lost fates in
    omega arith
fates-counted (Held ∷ fates) =
    let rest = fates-counted fates in
    let departed = count-cons is_departed Held fates in
    let lost = count-cons is_lost Held fates in
    let held = count-cons is_held Held fates in
    omega arith

-- where none is held, sojourns are the same by the end of any run
pub sojourns-none_held : (span : ℕ) (arrives : List ℕ) (fates : List Fate) → count_by is_held fates ≡ 0 → sequence_sojourns 0 arrives fates ≡ sequence_sojourns span arrives fates
sojourns-none_held span [] fates none = refl
sojourns-none_held span (a ∷ arrives) [] none = refl
sojourns-none_held span (a ∷ arrives) (Departs time ∷ fates) none =
    let held = count-cons is_held (Departs time) fates in
    ap (λ l. sequence_sojourn 0 a (Departs time) ∷ l) (sojourns-none_held span arrives fates (omega arith))
sojourns-none_held span (a ∷ arrives) (Lost ∷ fates) none =
    let held = count-cons is_held Lost fates in
    ap (λ l. sequence_sojourn 0 a Lost ∷ l) (sojourns-none_held span arrives fates (omega arith))
sojourns-none_held span (a ∷ arrives) (Held ∷ fates) none = let held = count-cons is_held Held fates in absurd (omega arith)
