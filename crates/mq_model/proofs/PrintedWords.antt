-- The words of a line in its ranges: their bytes, and how many they are.
use Rattle.std.proofs.Common.{◌≡◌, ◌∙◌, refl, ℕ, ◌+◌, ◌*◌, ◌<◌, ◌≤◌, ◌^◌, List, [], ◌∷◌, ◌++◌, length, Bool, true, arith, inl, inr, length-append}
use Rattle.std.specs.Prelude.{decimal, ◌&&◌, ◌==◌, nat_lt, nat_le, map}
use Rattle.std.specs.Char.{is_ascii_digit, is_ascii_lowercase}
use Rattle.std.specs.List.{flat_map, list_all}
use Rattle.std.proofs.lemmas.Bool.{cases_Bool, and_parts, and_from, leb-true, le-leb, ltb-true, lt-ltb}
use Rattle.std.proofs.lemmas.Fmt.{decimal_nonempty, length-decimal-le}
use Rattle.std.proofs.lemmas.Grind.{common_steps}
use Rattle.std.proofs.lemmas.List.Folds.{list_all-append}
use Rattle.mq_base.proofs.lemmas.Tests.{list_all_wider}
use Rattle.mq_base.proofs.lemmas.Numbers.{number_again}
use Rattle.mq_core.specs.Names.{is_name, is_name_byte}
use Rattle.mq_core.specs.Ranges.{is_within}
use Rattle.mq_model.specs.Form.{Word}
use Rattle.mq_model.specs.Printed.{barred_words, branches_words, stage_words, stages_words, demand_word, first_word, input_word, inputs_words, kind_words, reads_words, route_words, said_words}
use Rattle.mq_model.specs.declared.said.SaidDemand.{SaidDemand}
use Rattle.mq_model.specs.declared.said.SaidDemand.TheVariants.{Column, Fixed}
use Rattle.mq_model.specs.declared.said.SaidInput.{SaidInput}
use Rattle.mq_model.specs.declared.said.SaidStage.{SaidStage}
use Rattle.mq_model.specs.declared.said.SaidKind.{SaidKind}
use Rattle.mq_model.specs.declared.said.SaidKind.TheVariants.{Source, Server, Delay, Loss, Tandem, ForkJoin, Split, Fork, Join, Trunk}
use Rattle.mq_model.specs.declared.said.SaidRoute.{SaidRoute}
use Rattle.mq_model.specs.declared.said.SaidRoute.TheVariants.{Modulo, Turn, Cut}
use Rattle.mq_model.specs.declared.said.Said.{Said}
use Rattle.mq_model.specs.declared.said.Said.TheVariants.{Bound, Node}
use Rattle.mq_model.specs.Said.{reads_of}
use Rattle.mq_model.proofs.Lists.{AreAll, all_both, all_told}
use Rattle.mq_model.proofs.PrintedParts.{AreInputs, IsInput}
use Rattle.std.proofs.lemmas.List.{length-map}
use Rattle.mq_model.proofs.SoundLines.{AreSoundBranches, IsSoundBranch, AreSoundStages, IsSoundStage, IsSoundDemand, IsSoundKind, IsSoundRoute, IsSoundSaid, is_sound_reads}

-- Words: 1 to 34 visible bytes.
abbrev pub is_visible : ℕ → Bool
is_visible b = nat_lt 32 b && nat_le b 126

abbrev pub is_solid : Word → Bool
is_solid w = nat_lt 0 (length w) && nat_le (length w) 34 && list_all is_visible w

name_byte_visible : (b : ℕ) → is_name_byte b ≡ true → is_visible b ≡ true
name_byte_visible b h = grind (arith, common_steps, h)

digit_visible : (b : ℕ) → is_ascii_digit b ≡ true → is_visible b ≡ true
digit_visible b h = grind (arith, common_steps, h)

record IsShort (most : ℕ) (w : Word) : Type 0 where
  some : 0 < length w
  short : length w ≤ most
  visible : list_all is_visible w ≡ true

name_short : (w : Word) → is_name w ≡ true → IsShort 32 w
name_short [] h = absurd (cc)
name_short (b ∷ more) h =
    let other = and_parts _ _ h in
    let count = and_parts _ _ other.0 in
    let bytes = and_parts _ _ count.0 in
    let few : length more < 32 = ltb-true _ _ count.1 in
    let first : is_visible b ≡ true = name_byte_visible b (letter_is b bytes.0) in
    record { some = omega arith; short = omega arith; visible = and_from _ _ first (list_all_wider is_name_byte is_visible more name_byte_visible bytes.1) }
  where
    letter_is : (b : ℕ) → is_ascii_lowercase b ≡ true → is_name_byte b ≡ true
    letter_is b h = rw h refl

decimal_short : (n limit k : ℕ) → n ≤ limit → limit < 10 ^ 19 → 0 < k → n < 10 ^ k → IsShort k (decimal n)
decimal_short n limit k h small some fits =
    let again = number_again n limit h small in
    let parts = and_parts _ _ again.0 in
    let digits = and_parts _ _ parts.0 in
    let wide : n < 2 ^ 64 = omega arith in
    record { some = decimal_nonempty n wide; short = length-decimal-le k n some fits wide; visible = list_all_wider is_ascii_digit is_visible (decimal n) digit_visible digits.1 }

solid : (most : ℕ) (w : Word) → most ≤ 34 → IsShort most w → is_solid w ≡ true
solid most w h s =
    let some = s.some in
    let short = s.short in
    and_from _ _ (and_from _ _ (lt-ltb 0 (length w) some) (le-leb (length w) 34 (omega arith))) s.visible

demand_solid : (d : SaidDemand) → IsSoundDemand d → is_solid (demand_word d) ≡ true
demand_solid (Column name) h = solid 32 name (omega arith) (name_short name h)
demand_solid (Fixed n) h =
    let small : n ≤ 2 ^ 36 = leb-true _ _ h in
    let number = decimal_short n (2 ^ 36) 11 small (omega arith) (omega arith) (omega arith) in
    let short = number.short in
    solid 12 (61 ∷ decimal n) (omega arith) (record { some = omega arith; short = omega arith; visible = number.visible })

input_solid : (input : SaidInput) → IsInput input → is_solid (input_word input) ≡ true
input_solid input h =
    let name = name_short input.name h.0 in
    elim (cases_Bool (input.out == 0)) [
      | inl first ↦ rw first (solid 32 input.name (omega arith) name)
      | inr other ↦
          let small = h.1 in
          let number = decimal_short input.out 7 1 small (omega arith) (omega arith) (omega arith) in
          let digit = number.short in
          let short = name.short in
          let size : length (input.name ++ 46 ∷ decimal input.out) ≡ length input.name + length (46 ∷ decimal input.out) = length-append input.name (46 ∷ decimal input.out) in
          rw other (solid 34 (input.name ++ 46 ∷ decimal input.out) (omega arith)
          (record { some = omega arith; short = omega arith; visible = list_all-append is_visible input.name (46 ∷ decimal input.out) ∙ and_from _ _ name.visible number.visible }))
    ]

inputs_solid : (reads : List SaidInput) → AreInputs reads → list_all is_solid (map input_word reads) ≡ true
inputs_solid [] are = refl
inputs_solid (input ∷ reads) are = and_from _ _ (input_solid input are.0) (inputs_solid reads are.1)

cuts_solid : (cuts : List ℕ) → list_all (λ threshold. nat_le threshold (2 ^ 36)) cuts ≡ true → list_all is_solid (map decimal cuts) ≡ true
cuts_solid [] small = refl
cuts_solid (t ∷ cuts) small =
    let both = and_parts _ _ small in
    let fits : t ≤ 2 ^ 36 = leb-true _ _ both.0 in
    and_from _ _ (solid 11 (decimal t) (omega arith) (decimal_short t (2 ^ 36) 11 fits (omega arith) (omega arith) (omega arith))) (cuts_solid cuts both.1)

outputs_solid : (outputs : ℕ) → is_within 2 8 outputs ≡ true → is_solid (decimal outputs) ≡ true
outputs_solid outputs within =
    let most : outputs ≤ 8 = leb-true _ _ (and_parts _ _ within).1 in
    solid 1 (decimal outputs) (omega arith) (decimal_short outputs 8 1 most (omega arith) (omega arith) (omega arith))

places_solid : (places : ℕ) → is_within 1 1048576 places ≡ true → is_solid (decimal places) ≡ true
places_solid places within =
    let most : places ≤ 1048576 = leb-true _ _ (and_parts _ _ within).1 in
    solid 7 (decimal places) (omega arith) (decimal_short places 1048576 7 most (omega arith) (omega arith) (omega arith))

fork_solid : (outputs : ℕ) → is_within 2 4 outputs ≡ true → is_solid (decimal outputs) ≡ true
fork_solid outputs within =
    let most : outputs ≤ 4 = leb-true _ _ (and_parts _ _ within).1 in
    solid 1 (decimal outputs) (omega arith) (decimal_short outputs 4 1 most (omega arith) (omega arith) (omega arith))

servers_solid : (servers : ℕ) → is_within 1 255 servers ≡ true → is_solid (decimal servers) ≡ true
servers_solid servers within =
    let most : servers ≤ 255 = leb-true _ _ (and_parts _ _ within).1 in
    solid 3 (decimal servers) (omega arith) (decimal_short servers 255 3 most (omega arith) (omega arith) (omega arith))

stage_solid : (stage : SaidStage) → IsSoundStage 1 4 stage → list_all is_solid (stage_words stage) ≡ true
stage_solid stage sound =
    let most : stage.places ≤ 4 = leb-true _ _ (and_parts _ _ sound.0).1 in
    let places : is_solid (decimal stage.places) ≡ true = solid 1 (decimal stage.places) (omega arith) (decimal_short stage.places 4 1 most (omega arith) (omega arith) (omega arith)) in
    and_from _ _ refl (and_from _ _ places (and_from _ _ (demand_solid stage.demand sound.1) refl))

stages_solid : (stages : List SaidStage) → AreSoundStages stages → list_all is_solid (stages_words stages) ≡ true
stages_solid [] sound = refl
stages_solid (stage ∷ stages) sound = and_from _ _ (demand_solid stage.demand sound.0.1) (all_told (IsSoundStage 1 4) stage_words is_solid stage_solid stages sound.2)

demands_solid : (demands : List SaidDemand) → AreAll IsSoundDemand demands → list_all is_solid (map demand_word demands) ≡ true
demands_solid [] sound = refl
demands_solid (d ∷ demands) sound = and_from _ _ (demand_solid d sound.0) (demands_solid demands sound.1)

branches_solid : (branches : List (List SaidDemand)) → AreSoundBranches branches → list_all is_solid (branches_words branches) ≡ true
branches_solid [] sound = refl
branches_solid (demands ∷ branches) sound =
    all_both is_solid (map demand_word demands) (flat_map barred_words branches) (demands_solid demands sound.1.0.1)
    (all_told IsSoundBranch barred_words is_solid (λ further own. and_from _ _ refl (demands_solid further own.1)) branches sound.1.1)

route_solid : (route : SaidRoute) → IsSoundRoute route → list_all is_solid (route_words route) ≡ true
route_solid (Modulo outputs column) sound = and_from _ _ (outputs_solid outputs sound.0) (and_from _ _ refl (and_from _ _ (solid 32 column (omega arith) (name_short column sound.1)) refl))
route_solid (Turn outputs) sound = and_from _ _ (outputs_solid outputs sound) refl
route_solid (Cut column cuts) sound = and_from _ _ (solid 32 column (omega arith) (name_short column sound.0)) (cuts_solid cuts sound.1.2)

first_solid : (kind : SaidKind) → is_solid (first_word kind) ≡ true
first_solid Source = refl
first_solid (Server d) = refl
first_solid (Delay d) = refl
first_solid (Loss places d) = refl
first_solid (Tandem stages) = refl
first_solid (ForkJoin branches) = refl
first_solid (Split route) = refl
first_solid (Fork outputs) = refl
first_solid Join = refl
first_solid (Trunk servers d) = refl

kind_solid : (kind : SaidKind) → IsSoundKind kind → list_all is_solid (kind_words kind) ≡ true
kind_solid Source sound = refl
kind_solid (Server d) sound = and_from _ _ (demand_solid d sound) refl
kind_solid (Delay d) sound = and_from _ _ (demand_solid d sound) refl
kind_solid (Loss places d) sound = and_from _ _ (places_solid places sound.0) (and_from _ _ (demand_solid d sound.1) refl)
kind_solid (Tandem stages) sound = stages_solid stages sound
kind_solid (ForkJoin branches) sound = branches_solid branches sound
kind_solid (Split route) sound = route_solid route sound
kind_solid (Fork outputs) sound = and_from _ _ (fork_solid outputs sound) refl
kind_solid Join sound = refl
kind_solid (Trunk servers d) sound = and_from _ _ (servers_solid servers sound.0) (and_from _ _ (demand_solid d sound.1) refl)

reads_solid : (kind : SaidKind) (reads : List SaidInput) → AreInputs reads → list_all is_solid (reads_words kind reads) ≡ true
reads_solid Source reads are = refl
reads_solid (Server d) reads are = inputs_solid reads are
reads_solid (Delay d) reads are = inputs_solid reads are
reads_solid (Loss places d) reads are = inputs_solid reads are
reads_solid (Tandem stages) reads are = inputs_solid reads are
reads_solid (ForkJoin branches) reads are = inputs_solid reads are
reads_solid (Split route) reads are = inputs_solid reads are
reads_solid (Fork outputs) reads are = inputs_solid reads are
reads_solid Join reads are = inputs_solid reads are
reads_solid (Trunk servers d) reads are = inputs_solid reads are

pub said_solid : (said : Said) → IsSoundSaid said → AreInputs (reads_of said) → list_all is_solid (said_words said) ≡ true
said_solid (Bound n) sound are =
    let small : n ≤ 2 ^ 60 = leb-true _ _ sound in
    and_from _ _ (solid 19 (decimal n) (omega arith) (decimal_short n (2 ^ 60) 19 small (omega arith) (omega arith) (omega arith))) refl
said_solid (Node name kind reads) sound are =
    let behind : list_all is_solid (kind_words kind ++ reads_words kind reads) ≡ true =
    list_all-append is_solid (kind_words kind) (reads_words kind reads) ∙ and_from _ _ (kind_solid kind sound.1) (reads_solid kind reads are) in
    and_from _ _ (first_solid kind) (and_from _ _ (solid 32 name (omega arith) (name_short name sound.0)) behind)

-- At most 26 words.
pub record IsFew (ws : List Word) : Type 0 where
  pub some : 0 < length ws
  pub few : length ws ≤ 26

inputs_few : (reads : List SaidInput) (least : ℕ) → is_within least 8 (length reads) ≡ true → length (inputs_words reads) ≤ 9
inputs_few reads least count =
    let most : length reads ≤ 8 = leb-true _ _ (and_parts _ _ count).1 in
    let size : length (map input_word reads) ≡ length reads = length-map reads input_word in
    omega arith

reads_few : (kind : SaidKind) (reads : List SaidInput) → is_sound_reads kind (length reads) ≡ true → length (reads_words kind reads) ≤ 9
reads_few Source reads count = omega arith
reads_few (Server d) reads count = inputs_few reads 1 count
reads_few (Delay d) reads count = inputs_few reads 1 count
reads_few (Loss places d) reads count = inputs_few reads 1 count
reads_few (Tandem stages) reads count = inputs_few reads 1 count
reads_few (ForkJoin branches) reads count = inputs_few reads 1 count
reads_few (Split route) reads count = inputs_few reads 1 count
reads_few (Fork outputs) reads count = inputs_few reads 1 count
reads_few Join reads count = inputs_few reads 2 count
reads_few (Trunk servers d) reads count = inputs_few reads 1 count

further_count : (stages : List SaidStage) → length (flat_map stage_words stages) ≡ 3 * length stages
further_count [] = refl
further_count (stage ∷ stages) = let again = further_count stages in omega arith

stages_few : (stages : List SaidStage) → AreSoundStages stages → length (stages_words stages) ≤ 15
stages_few [] sound = omega arith
stages_few (stage ∷ stages) sound =
    let most : length stages ≤ 3 = leb-true _ _ (and_parts _ _ sound.1).1 in
    let count = further_count stages in
    omega arith

barred_count : (branches : List (List SaidDemand)) → length (flat_map barred_words branches) ≡ length branches + length (flat_map (λ demands. demands) branches)
barred_count [] = refl
barred_count (demands ∷ branches) =
    let again = barred_count branches in
    let own : length (map demand_word demands) ≡ length demands = length-map demands demand_word in
    let words : length (map demand_word demands ++ flat_map barred_words branches) ≡ length (map demand_word demands) + length (flat_map barred_words branches) = length-append (map demand_word demands) (flat_map barred_words branches) in
    let size : length (demands ++ flat_map (λ demands. demands) branches) ≡ length demands + length (flat_map (λ demands. demands) branches) = length-append demands (flat_map (λ demands. demands) branches) in
    omega arith

branches_few : (branches : List (List SaidDemand)) → AreSoundBranches branches → length (branches_words branches) ≤ 15
branches_few [] sound = omega arith
branches_few (demands ∷ branches) sound =
    let most : length (demands ∷ branches) ≤ 8 = leb-true _ _ (and_parts _ _ sound.0).1 in
    let few : length (demands ++ flat_map (λ demands. demands) branches) ≤ 8 = leb-true _ _ sound.2 in
    let own : length (map demand_word demands) ≡ length demands = length-map demands demand_word in
    let words : length (map demand_word demands ++ flat_map barred_words branches) ≡ length (map demand_word demands) + length (flat_map barred_words branches) = length-append (map demand_word demands) (flat_map barred_words branches) in
    let size : length (demands ++ flat_map (λ demands. demands) branches) ≡ length demands + length (flat_map (λ demands. demands) branches) = length-append demands (flat_map (λ demands. demands) branches) in
    let count = barred_count branches in
    omega arith

kind_few : (kind : SaidKind) → IsSoundKind kind → length (kind_words kind) ≤ 15
kind_few Source sound = omega arith
kind_few (Server d) sound = omega arith
kind_few (Delay d) sound = omega arith
kind_few (Loss places d) sound = omega arith
kind_few (Tandem stages) sound = stages_few stages sound
kind_few (ForkJoin branches) sound = branches_few branches sound
kind_few (Split (Modulo outputs column)) sound = omega arith
kind_few (Split (Turn outputs)) sound = omega arith
kind_few (Split (Cut column cuts)) sound =
    let most : length cuts ≤ 7 = leb-true _ _ (and_parts _ _ sound.1.0).1 in
    let same : length (map decimal cuts) ≡ length cuts = length-map cuts decimal in
    omega arith
kind_few (Fork outputs) sound = omega arith
kind_few Join sound = omega arith
kind_few (Trunk servers d) sound = omega arith

pub said_few : (said : Said) → IsSoundSaid said → IsFew (said_words said)
said_few (Bound n) sound = record { some = omega arith; few = omega arith }
said_few (Node name kind reads) sound =
    let size : length (kind_words kind ++ reads_words kind reads) ≡ length (kind_words kind) + length (reads_words kind reads) = length-append (kind_words kind) (reads_words kind reads) in
    let own = kind_few kind sound.1 in
    let rest = reads_few kind reads sound.2 in
    record { some = omega arith; few = omega arith }
