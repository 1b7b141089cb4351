-- The stages of a tandem, as a line says them and as a network has them.
use Rattle.std.proofs.Common.{◌≡◌, ◌∙◌, ap, refl, ℕ, List, [], ◌∷◌, length, true}
use Rattle.std.specs.Prelude.{map}
use Rattle.std.specs.List.{list_all, flat_map}
use Rattle.std.specs.Str.{bytes_eq}
use Rattle.std.proofs.lemmas.Bool.{and_parts, and_from}
use Rattle.std.proofs.lemmas.List.{length-map}
use Rattle.mq_core.specs.Names.{is_name}
use Rattle.mq_core.specs.Sound.{are_distinct}
use Rattle.mq_core.specs.Kinds.Tandem.{are_sound_stages, is_sound_stage}
use Rattle.mq_core.specs.Ranges.{columns_of_demand, is_within}
use Rattle.mq_core.specs.declared.model.Stage.{Stage}
use Rattle.mq_model.specs.Form.{Word}
use Rattle.mq_model.specs.NetworkOf.{number_in, stage_in}
use Rattle.mq_model.specs.Said.{is_among, mentions_of_demand}
use Rattle.mq_model.specs.SaidOf.{name_at, stage_by}
use Rattle.mq_model.specs.declared.said.SaidStage.{SaidStage}
use Rattle.mq_model.proofs.Demands.{demand_again, demand_columns, demand_in_range, demand_mentions, demand_names, demand_said}
use Rattle.mq_model.proofs.Lists.{all_both, all_have, all_mapped, all_parts, all_told, flat_mapped, map_back}
use Rattle.mq_model.proofs.SoundLines.{AreSoundStages, IsSoundStage}

abbrev stage_columns : Stage → List ℕ
stage_columns stage = columns_of_demand stage.demand

abbrev stage_mentions : SaidStage → List Word
stage_mentions stage = mentions_of_demand stage.demand

-- Of a line without a fault.
pub stages_columns : (columns : List Word) (stages : List SaidStage) → flat_map stage_columns (map (stage_in columns) stages) ≡ map (number_in columns) (flat_map stage_mentions stages)
stages_columns columns = flat_mapped stage_columns stage_mentions (stage_in columns) (number_in columns) (λ stage. demand_columns columns stage.demand)

pub stages_names : (stages : List SaidStage) → AreSoundStages stages → list_all is_name (flat_map stage_mentions stages) ≡ true
stages_names [] sound = refl
stages_names (stage ∷ stages) sound =
    all_both is_name (stage_mentions stage) (flat_map stage_mentions stages) (demand_names stage.demand sound.0.1)
    (all_told (IsSoundStage 1 4) stage_mentions is_name (λ further own. demand_names further.demand own.1) stages sound.2)

stage_in_range : (columns : List Word) (low high : ℕ) (stage : SaidStage) → IsSoundStage low high stage → list_all (is_among columns) (stage_mentions stage) ≡ true → is_sound_stage (length columns) low high (stage_in columns stage) ≡ true
stage_in_range columns low high stage sound among = and_from _ _ sound.0 (demand_in_range columns stage.demand sound.1 among)

pub stages_in_range : (columns : List Word) (stages : List SaidStage) → AreSoundStages stages → list_all (is_among columns) (flat_map stage_mentions stages) ≡ true → are_sound_stages (length columns) (map (stage_in columns) stages) ≡ true
stages_in_range columns [] sound among = absurd sound
stages_in_range columns (stage ∷ stages) sound among =
    let both = all_parts (is_among columns) (stage_mentions stage) (flat_map stage_mentions stages) among in
    let first : is_sound_stage (length columns) 0 0 (stage_in columns stage) ≡ true = stage_in_range columns 0 0 stage sound.0 both.0 in
    let count : is_within 1 3 (length (map (stage_in columns) stages)) ≡ true = rw (length-map stages (stage_in columns)) sound.1 in
    let further : list_all (is_sound_stage (length columns) 1 4) (map (stage_in columns) stages) ≡ true =
    all_mapped (IsSoundStage 1 4) stage_mentions (stage_in columns) (is_among columns) (is_sound_stage (length columns) 1 4) (λ further own told. stage_in_range columns 1 4 further own told) stages sound.2 both.1 in
    and_from _ _ (and_from _ _ first count) further

-- Of a sound network.
pub stages_mentions : (columns : List Word) (stages : List Stage) → flat_map stage_mentions (map (stage_by columns) stages) ≡ map (name_at columns) (flat_map stage_columns stages)
stages_mentions columns = flat_mapped stage_mentions stage_columns (stage_by columns) (name_at columns) (λ stage. demand_mentions columns stage.demand)

stage_again : (columns : List Word) (low high : ℕ) (stage : Stage) → are_distinct bytes_eq columns ≡ true → is_sound_stage (length columns) low high stage ≡ true → stage_in columns (stage_by columns stage) ≡ stage
stage_again columns low high stage distinct sound = ap (λ d. record { places = stage.places; demand = d }) (demand_again columns stage.demand distinct (and_parts _ _ sound).1)

pub stages_again : (columns : List Word) (stages : List Stage) → are_distinct bytes_eq columns ≡ true → are_sound_stages (length columns) stages ≡ true → map (stage_in columns) (map (stage_by columns) stages) ≡ stages
stages_again columns [] distinct sound = refl
stages_again columns (stage ∷ stages) distinct sound =
    let parts = and_parts _ _ sound in
    let first = and_parts _ _ parts.0 in
    ap (λ s. s ∷ map (stage_in columns) (map (stage_by columns) stages)) (stage_again columns 0 0 stage distinct first.0)
    ∙ ap (λ more. stage ∷ more) (map_back (stage_by columns) (stage_in columns) (is_sound_stage (length columns) 1 4) (λ further own. stage_again columns 1 4 further distinct own) stages parts.1)

stage_said : (columns : List Word) (low high : ℕ) (stage : Stage) → list_all is_name columns ≡ true → is_sound_stage (length columns) low high stage ≡ true → IsSoundStage low high (stage_by columns stage)
stage_said columns low high stage named sound = let both = and_parts _ _ sound in (both.0, demand_said columns stage.demand named both.1)

pub stages_said : (columns : List Word) (stages : List Stage) → list_all is_name columns ≡ true → are_sound_stages (length columns) stages ≡ true → AreSoundStages (map (stage_by columns) stages)
stages_said columns [] named sound = absurd (cc)
stages_said columns (stage ∷ stages) named sound =
    let parts = and_parts _ _ sound in
    let first = and_parts _ _ parts.0 in
    let count : is_within 1 3 (length (map (stage_by columns) stages)) ≡ true = rw (length-map stages (stage_by columns)) first.1 in
    (stage_said columns 0 0 stage named first.0, count, all_have (stage_by columns) (is_sound_stage (length columns) 1 4) (IsSoundStage 1 4) (λ further own. stage_said columns 1 4 further named own) stages parts.1)
