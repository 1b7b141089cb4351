-- The branches of a fork-join, as a line says them and as a network has them.
use Rattle.std.proofs.Common.{◌≡◌, ◌∙◌, ap, refl, sym, ℕ, List, length, Bool, true}
use Rattle.std.specs.Prelude.{map, nat_le, ◌&&◌}
use Rattle.std.specs.List.{list_all, flat_map}
use Rattle.std.specs.Str.{bytes_eq}
use Rattle.std.proofs.lemmas.Bool.{and_parts, and_from}
use Rattle.std.proofs.lemmas.List.{length-map}
use Rattle.mq_core.specs.Names.{is_name}
use Rattle.mq_core.specs.Sound.{are_distinct}
use Rattle.mq_core.specs.Kinds.ForkJoin.{are_sound_branches}
use Rattle.mq_core.specs.Ranges.{columns_of_demand, is_sound_demand, is_within}
use Rattle.mq_core.specs.declared.model.Demand.{Demand}
use Rattle.mq_model.specs.Form.{Word}
use Rattle.mq_model.specs.NetworkOf.{demand_in, number_in}
use Rattle.mq_model.specs.Said.{is_among, mentions_of_demand}
use Rattle.mq_model.specs.SaidOf.{demand_by, name_at}
use Rattle.mq_model.specs.declared.said.SaidDemand.{SaidDemand}
use Rattle.mq_model.proofs.Demands.{demand_again, demand_columns, demand_in_range, demand_mentions, demand_names, demand_said}
use Rattle.mq_model.proofs.Lists.{all_have, all_mapped, all_told, flat_mapped, flat_twice, map_back}
use Rattle.mq_model.proofs.SoundLines.{AreSoundBranches, IsSoundBranch, IsSoundDemand}

abbrev all_of : {A : Type 0} → List (List A) → List A
all_of xss = flat_map (λ xs. xs) xss

-- the demands of all branches, each told in another way
all_mapped_twice : {A B : Type 0} (h : B → A) (xss : List (List B)) → all_of (map (map h) xss) ≡ map h (all_of xss)
all_mapped_twice h xss = flat_mapped (λ xs. xs) (λ xs. xs) (map h) h (λ xs. refl) xss

-- Of a line without a fault.
pub branches_columns : (columns : List Word) (branches : List (List SaidDemand)) → flat_map columns_of_demand (all_of (map (map (demand_in columns)) branches)) ≡ map (number_in columns) (flat_map (λ demands. flat_map mentions_of_demand demands) branches)
branches_columns columns branches =
    ap (flat_map columns_of_demand) (all_mapped_twice (demand_in columns) branches)
    ∙ flat_mapped columns_of_demand mentions_of_demand (demand_in columns) (number_in columns) (demand_columns columns) (all_of branches) ∙ ap (map (number_in columns)) (flat_twice mentions_of_demand branches)

pub branches_names : (branches : List (List SaidDemand)) → AreSoundBranches branches → list_all is_name (flat_map (λ demands. flat_map mentions_of_demand demands) branches) ≡ true
branches_names branches sound =
    all_told IsSoundBranch (λ demands. flat_map mentions_of_demand demands) is_name (λ demands own. all_told IsSoundDemand mentions_of_demand is_name demand_names demands own.1) branches sound.1

abbrev is_sound_branch : ℕ → List Demand → Bool
is_sound_branch columns demands = is_within 1 4 (length demands) && list_all (is_sound_demand columns) demands

branch_in_range : (columns : List Word) (demands : List SaidDemand) → IsSoundBranch demands → list_all (is_among columns) (flat_map mentions_of_demand demands) ≡ true → is_sound_branch (length columns) (map (demand_in columns) demands) ≡ true
branch_in_range columns demands sound among =
    let count : is_within 1 4 (length (map (demand_in columns) demands)) ≡ true = rw (length-map demands (demand_in columns)) sound.0 in
    and_from _ _ count (all_mapped IsSoundDemand mentions_of_demand (demand_in columns) (is_among columns) (is_sound_demand (length columns)) (demand_in_range columns) demands sound.1 among)

pub branches_in_range : (columns : List Word) (branches : List (List SaidDemand)) → AreSoundBranches branches → list_all (is_among columns) (flat_map (λ demands. flat_map mentions_of_demand demands) branches) ≡ true
    → are_sound_branches (length columns) (map (map (demand_in columns)) branches) ≡ true
branches_in_range columns branches sound among =
    let count : is_within 2 8 (length (map (map (demand_in columns)) branches)) ≡ true = rw (length-map branches (map (demand_in columns))) sound.0 in
    let each : list_all (is_sound_branch (length columns)) (map (map (demand_in columns)) branches) ≡ true =
    all_mapped IsSoundBranch (λ demands. flat_map mentions_of_demand demands) (map (demand_in columns)) (is_among columns) (is_sound_branch (length columns)) (branch_in_range columns) branches sound.1 among in
    let size : length (all_of (map (map (demand_in columns)) branches)) ≡ length (all_of branches) = ap length (all_mapped_twice (demand_in columns) branches) ∙ length-map (all_of branches) (demand_in columns) in
    let few : nat_le (length (all_of (map (map (demand_in columns)) branches))) 8 ≡ true = rw size sound.2 in
    and_from _ _ (and_from _ _ count each) few

-- Of a sound network.
pub branches_mentions : (columns : List Word) (branches : List (List Demand)) → flat_map (λ demands. flat_map mentions_of_demand demands) (map (map (demand_by columns)) branches) ≡ map (name_at columns) (flat_map columns_of_demand (all_of branches))
branches_mentions columns branches =
    sym (flat_twice mentions_of_demand (map (map (demand_by columns)) branches)) ∙ ap (flat_map mentions_of_demand) (all_mapped_twice (demand_by columns) branches)
    ∙ flat_mapped mentions_of_demand columns_of_demand (demand_by columns) (name_at columns) (demand_mentions columns) (all_of branches)

pub branches_again : (columns : List Word) (branches : List (List Demand)) → are_distinct bytes_eq columns ≡ true → are_sound_branches (length columns) branches ≡ true
    → map (map (demand_in columns)) (map (map (demand_by columns)) branches) ≡ branches
branches_again columns branches distinct sound =
    let few = and_parts _ _ sound in
    let count = and_parts _ _ few.0 in
    map_back (map (demand_by columns)) (map (demand_in columns)) (is_sound_branch (length columns))
    (λ demands own. map_back (demand_by columns) (demand_in columns) (is_sound_demand (length columns)) (λ d range. demand_again columns d distinct range) demands (and_parts _ _ own).1) branches count.1

branch_said : (columns : List Word) (demands : List Demand) → list_all is_name columns ≡ true → is_sound_branch (length columns) demands ≡ true → IsSoundBranch (map (demand_by columns) demands)
branch_said columns demands named sound =
    let both = and_parts _ _ sound in
    let count : is_within 1 4 (length (map (demand_by columns) demands)) ≡ true = rw (length-map demands (demand_by columns)) both.0 in
    (count, all_have (demand_by columns) (is_sound_demand (length columns)) IsSoundDemand (λ d range. demand_said columns d named range) demands both.1)

pub branches_said : (columns : List Word) (branches : List (List Demand)) → list_all is_name columns ≡ true → are_sound_branches (length columns) branches ≡ true → AreSoundBranches (map (map (demand_by columns)) branches)
branches_said columns branches named sound =
    let few = and_parts _ _ sound in
    let count = and_parts _ _ few.0 in
    let many : is_within 2 8 (length (map (map (demand_by columns)) branches)) ≡ true = rw (length-map branches (map (demand_by columns))) count.0 in
    let size : length (all_of (map (map (demand_by columns)) branches)) ≡ length (all_of branches) = ap length (all_mapped_twice (demand_by columns) branches) ∙ length-map (all_of branches) (demand_by columns) in
    let small : nat_le (length (all_of (map (map (demand_by columns)) branches))) 8 ≡ true = rw size few.1 in
    (many, all_have (map (demand_by columns)) (is_sound_branch (length columns)) IsSoundBranch (λ demands own. branch_said columns demands named own) branches count.1, small)
