-- A demand, as a line says it and as a network has it.
use Rattle.std.proofs.Common.{◌≡◌, ap, refl, subst, ◌<◌, List, [], length, true}
use Rattle.std.specs.Prelude.{map, nat_lt}
use Rattle.std.specs.List.{list_all}
use Rattle.std.specs.Str.{bytes_eq}
use Rattle.std.proofs.lemmas.Bool.{and_parts, and_from, lt-ltb, ltb-true}
use Rattle.std.proofs.lemmas.List.{append-nil}
use Rattle.mq_base.proofs.lemmas.Tests.{all_at}
use Rattle.mq_core.specs.Names.{is_name}
use Rattle.mq_core.specs.Sound.{are_distinct}
use Rattle.mq_core.specs.Ranges.{columns_of_demand, is_sound_demand}
use Rattle.mq_core.specs.declared.model.Demand.{Demand}
use Rattle.mq_core.specs.declared.model.Demand.TheVariants as demand
use Rattle.mq_model.specs.Form.{Word}
use Rattle.mq_model.specs.NetworkOf.{demand_in, number_in}
use Rattle.mq_model.specs.Said.{is_among, mentions_of_demand}
use Rattle.mq_model.specs.SaidOf.{demand_by, name_at}
use Rattle.mq_model.specs.declared.said.SaidDemand.{SaidDemand}
use Rattle.mq_model.specs.declared.said.SaidDemand.TheVariants.{Column, Fixed}
use Rattle.mq_model.proofs.NamesBack.{number_again}
use Rattle.mq_model.proofs.SoundColumns.{index_in_front}
use Rattle.mq_model.proofs.SoundLines.{IsSoundDemand}

-- Of a line without a fault: its columns, and its range.
pub demand_columns : (columns : List Word) (d : SaidDemand) → columns_of_demand (demand_in columns d) ≡ map (number_in columns) (mentions_of_demand d)
demand_columns columns (Column name) = refl
demand_columns columns (Fixed n) = refl

pub demand_names : (d : SaidDemand) → IsSoundDemand d → list_all is_name (mentions_of_demand d) ≡ true
demand_names (Column name) sound = and_from _ _ sound refl
demand_names (Fixed n) sound = refl

pub number_below : (names : List Word) (name : Word) → is_among names name ≡ true → nat_lt (number_in names name) (length names) ≡ true
number_below names name h =
    let below = index_in_front (λ other. bytes_eq other name) names [] h in
    lt-ltb _ _ (subst (λ all. number_in all name < length names) (append-nil names) below)

pub demand_in_range : (columns : List Word) (d : SaidDemand) → IsSoundDemand d → list_all (is_among columns) (mentions_of_demand d) ≡ true → is_sound_demand (length columns) (demand_in columns d) ≡ true
demand_in_range columns (Column name) sound among = number_below columns name (and_parts _ _ among).0
demand_in_range columns (Fixed n) sound among = sound

-- Of a sound network.
pub demand_mentions : (columns : List Word) (d : Demand) → mentions_of_demand (demand_by columns d) ≡ map (name_at columns) (columns_of_demand d)
demand_mentions columns (demand.Column column) = refl
demand_mentions columns (demand.Fixed n) = refl

pub demand_again : (columns : List Word) (d : Demand) → are_distinct bytes_eq columns ≡ true → is_sound_demand (length columns) d ≡ true → demand_in columns (demand_by columns d) ≡ d
demand_again columns (demand.Column column) distinct sound = ap (λ n. demand.Column n) (number_again columns column [] distinct (ltb-true _ _ sound))
demand_again columns (demand.Fixed n) distinct sound = refl

pub demand_said : (columns : List Word) (d : Demand) → list_all is_name columns ≡ true → is_sound_demand (length columns) d ≡ true → IsSoundDemand (demand_by columns d)
demand_said columns (demand.Column column) named h = all_at is_name columns column [] named (ltb-true _ _ h)
demand_said columns (demand.Fixed n) named h = h
