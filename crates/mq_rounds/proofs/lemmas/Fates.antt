-- The fates that a rule gives, and what leaves by them.
use Rattle.std.proofs.Common.{◌≡◌, ℕ, List, [], ◌∷◌, length, map, sym, refl, ap, ◌∙◌, arith}
use Rattle.std.specs.List.{AllByRecursion as Each}
use Rattle.std.proofs.lemmas.List.{length-map}
use Rattle.mq_core.specs.Fates.{departure_times}
use Rattle.mq_core.specs.OnceOut.{leaving_times, out_of_fate}
use Rattle.mq_core.specs.Streams.{picked}
use Rattle.mq_core.specs.declared.model.Fate.{Fate}
use Rattle.mq_core.specs.declared.model.Fate.TheVariants.{Departs, Held, Lost}
use Rattle.mq_core.proofs.lemmas.Over.{IsOver}
use Rattle.mq_rounds.specs.Rounds.{Rule, admits, fates_by, fates_from}
use Rattle.mq_rounds.proofs.lemmas.Guesses.{admission-length}

-- there is one fate an arrival
pub fates-each : (rule : Rule) (left times demands : List ℕ) → length demands ≡ length times → length (fates_from rule left times demands) ≡ length times
fates-each rule left times demands d = sym (length-map (fates_from rule left times demands) admits) ∙ admission-length rule left times demands d

-- fates are told by who is admitted and when those depart
pub fates-back : (fates : List Fate) → Each IsOver fates → fates_by (map admits fates) (departure_times fates) ≡ fates
fates-back [] o = refl
fates-back (Departs time ∷ fates) o = ap (λ l. Departs time ∷ l) (fates-back fates o.1)
fates-back (Lost ∷ fates) o = ap (λ l. Lost ∷ l) (fates-back fates o.1)
fates-back (Held ∷ fates) o = absurd o.0

-- those that are admitted leave as they depart, and the others as they came
pub admitted-leave : (arrive : List ℕ) (fates : List Fate) → length fates ≡ length arrive → Each IsOver fates → picked 0 (map out_of_fate fates) (leaving_times arrive fates) ≡ departure_times fates
admitted-leave [] [] e o = refl
admitted-leave [] (fate ∷ fates) e o = absurd (omega arith)
admitted-leave (time ∷ arrive) [] e o = refl
admitted-leave (time ∷ arrive) (Departs departs ∷ fates) e o = ap (λ l. departs ∷ l) (admitted-leave arrive fates (omega arith) o.1)
admitted-leave (time ∷ arrive) (Lost ∷ fates) e o = admitted-leave arrive fates (omega arith) o.1
admitted-leave (time ∷ arrive) (Held ∷ fates) e o = absurd o.0

pub lost-leave : (arrive : List ℕ) (fates : List Fate) → picked 1 (map out_of_fate fates) (leaving_times arrive fates) ≡ picked 1 (map out_of_fate fates) arrive
lost-leave arrive [] = refl
lost-leave [] (fate ∷ fates) = refl
lost-leave (time ∷ arrive) (Departs departs ∷ fates) = lost-leave arrive fates
lost-leave (time ∷ arrive) (Lost ∷ fates) = ap (λ l. time ∷ l) (lost-leave arrive fates)
lost-leave (time ∷ arrive) (Held ∷ fates) = lost-leave arrive fates
