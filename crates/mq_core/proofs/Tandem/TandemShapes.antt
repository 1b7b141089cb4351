-- The stages of a tandem whose numbers are in their ranges.
use Rattle.std.proofs.Common.{◌≡◌, ℕ, true, List, [], ◌∷◌, length, arith}
use Rattle.std.proofs.lemmas.Bool.{and_parts}
use Rattle.std.proofs.lemmas.Bool.Decides.{nat_tests}
use Rattle.std.specs.Prelude.{◌≤◌, ◌&&◌, nat_le}
use Rattle.std.specs.List.{AllByRecursion as Each, list_all}
use Rattle.mq_core.specs.Kinds.Tandem.{are_sound_stages, is_sound_stage}
use Rattle.mq_core.specs.Ranges.{is_sound_demand, is_within}
use Rattle.mq_core.specs.declared.model.Stage.{Stage}

-- each stage after the first has a place
abbrev pub LaterPlaces : List Stage → Type 0
LaterPlaces [] = Unit {0}
LaterPlaces (stage ∷ stages) = Each (λ (s : Stage). 1 ≤ s.places) stages

-- at least one stage and at most 8, and each after the first has a place
pub record AreStages (stages : List Stage) : Type 0 where
  pub some : 1 ≤ length stages
  pub few : length stages ≤ 8
  pub places : LaterPlaces stages

pub sound-stages : (columns : ℕ) (stages : List Stage) → are_sound_stages columns stages ≡ true → AreStages stages
sound-stages columns [] h = absurd cc
sound-stages columns (stage ∷ stages) h =
    let a = and_parts (is_sound_stage columns 0 0 stage && is_within 1 3 (length stages)) (list_all (is_sound_stage columns 1 4) stages) h in
    let b = and_parts (is_sound_stage columns 0 0 stage) (is_within 1 3 (length stages)) a.0 in
    let c : nat_le (length stages) 3 ≡ true = (and_parts (nat_le 1 (length stages)) (nat_le (length stages) 3) b.1).1 in
    let few : length stages ≤ 3 = grind (arith, nat_tests) in
    record { some = omega arith; few = omega arith; places = each stages a.1 }
  where
    each : (more : List Stage) → list_all (is_sound_stage columns 1 4) more ≡ true → Each (λ (s : Stage). 1 ≤ s.places) more
    each [] k = tt
    each (next ∷ more) k =
        let a = and_parts (is_sound_stage columns 1 4 next) (list_all (is_sound_stage columns 1 4) more) k in
        let b = and_parts (is_within 1 4 next.places) (is_sound_demand columns next.demand) a.0 in
        let c : nat_le 1 next.places ≡ true = (and_parts (nat_le 1 next.places) (nat_le next.places 4) b.0).0 in
        (grind (arith, nat_tests), each more a.1)

-- and each asks for a demand that is sound
pub sound-stages_demands : (columns : ℕ) (stages : List Stage) → are_sound_stages columns stages ≡ true → Each (λ (s : Stage). is_sound_demand columns s.demand ≡ true) stages
sound-stages_demands columns [] h = absurd cc
sound-stages_demands columns (stage ∷ stages) h =
    let a = and_parts (is_sound_stage columns 0 0 stage && is_within 1 3 (length stages)) (list_all (is_sound_stage columns 1 4) stages) h in
    let b = and_parts (is_sound_stage columns 0 0 stage) (is_within 1 3 (length stages)) a.0 in
    ((and_parts (is_within 0 0 stage.places) (is_sound_demand columns stage.demand) b.0).1, each stages a.1)
  where
    each : (more : List Stage) → list_all (is_sound_stage columns 1 4) more ≡ true → Each (λ (s : Stage). is_sound_demand columns s.demand ≡ true) more
    each [] k = tt
    each (next ∷ more) k =
        let a = and_parts (is_sound_stage columns 1 4 next) (list_all (is_sound_stage columns 1 4) more) k in
        ((and_parts (is_within 1 4 next.places) (is_sound_demand columns next.demand) a.0).1, each more a.1)
