-- The words of the parts of a line say them again.
use Rattle.std.proofs.Common.{◌≡◌, ◌∙◌, sym, ap, refl, subst, ℕ, suc, ◌+◌, ◌-◌, ◌<◌, ◌≤◌, ◌^◌, List, [], ◌∷◌, ◌++◌, length, take, get_or, true, false, Ok, arith, inl, inr, length-append}
use Rattle.std.specs.Prelude.{codes, decimal, ◌==◌, nat_le, map}
use Rattle.std.specs.List.{list_all}
use Rattle.std.proofs.Math.Seq.{take-append_seam}
use Rattle.std.proofs.lemmas.Bool.{cases_Bool, and_parts, and_from, and_left, and_right, or_left, or_right, leb-true, le-leb, eq-eqb, eqb-true}
use Rattle.std.proofs.lemmas.Fmt.{decimal_digit}
use Rattle.std.proofs.lemmas.Grind.{common_steps}
use Rattle.std.proofs.lemmas.List.Folds.{list_all-append}
use Rattle.mq_base.proofs.lemmas.Numbers.{number_again}
use Rattle.mq_core.specs.Names.{is_name, is_name_byte}
use Rattle.mq_core.specs.Ranges.{is_within}
use Rattle.mq_model.specs.Form.{Word, one, up_to, read}
use Rattle.mq_model.specs.Lines.{a_demand, a_name, demand_of, ends_in_output, input_of, inputs, joined_inputs, is_demand, is_from_to, is_input, key, last_byte, value_of}
use Rattle.mq_model.specs.Printed.{demand_word, input_word, inputs_words}
use Rattle.mq_model.specs.declared.said.SaidDemand.{SaidDemand}
use Rattle.mq_model.specs.declared.said.SaidDemand.TheVariants.{Column, Fixed}
use Rattle.mq_model.specs.declared.said.SaidInput.{SaidInput}
use Rattle.mq_model.specs.Reading.{with_front}
use Rattle.mq_model.proofs.ReadFacts.{inputs_first, joined_by, read_one_yes, several_are, up_to_none, up_to_yes}
use Rattle.mq_model.proofs.SoundLines.{IsSoundDemand}

name_begins : (b : ℕ) (more : List ℕ) → is_name (b ∷ more) ≡ true → (b == 61) ≡ false
name_begins b more h = grind (arith, common_steps, h)

pub demand_again : (d : SaidDemand) → IsSoundDemand d → (is_demand (demand_word d) ≡ true) × (demand_of (demand_word d) ≡ d)
demand_again (Column []) h = absurd (cc)
demand_again (Column (b ∷ more)) h = let other = name_begins b more h in rw other (h, refl)
demand_again (Fixed n) h = let again = number_again n (2 ^ 36) (leb-true _ _ h) (omega arith) in (again.0, ap (λ v. Fixed v) again.1)

-- Inputs: a name, and an output.
abbrev pub IsInput : SaidInput → Type 0
IsInput input = (is_name input.name ≡ true) × (input.out ≤ 7)

abbrev pub AreInputs : List SaidInput → Type 0
AreInputs [] = Unit {0}
AreInputs (input ∷ inputs) = IsInput input × AreInputs inputs

get_first : (front : List ℕ) (a b : ℕ) → get_or (front ++ a ∷ b ∷ []) (length front) 0 ≡ a
get_first [] a b = refl
get_first (x ∷ front) a b = get_first front a b

get_second : (front : List ℕ) (a b : ℕ) → get_or (front ++ a ∷ b ∷ []) (suc (length front)) 0 ≡ b
get_second [] a b = refl
get_second (x ∷ front) a b = get_second front a b

point_is_no_name : (name : Word) (b : ℕ) → is_name (name ++ 46 ∷ b ∷ []) ≡ false
point_is_no_name [] b = refl
point_is_no_name (c ∷ more) b =
    let bytes : list_all is_name_byte (more ++ 46 ∷ b ∷ []) ≡ false = list_all-append is_name_byte more (46 ∷ b ∷ []) ∙ and_right _ _ refl in
    and_left _ _ (and_left _ _ (and_right _ _ bytes))

point_again : (name : Word) (out : ℕ) → is_name name ≡ true → out ≤ 7 → (is_input (name ++ 46 ∷ (48 + out) ∷ []) ≡ true) × (input_of (name ++ 46 ∷ (48 + out) ∷ []) ≡ record { name = name; out = out })
point_again name out named small =
    let w : Word = name ++ 46 ∷ (48 + out) ∷ [] in
    let size : length w ≡ length name + 2 = length-append name (46 ∷ (48 + out) ∷ []) in
    let at_point : length w - 2 ≡ length name = omega arith in
    let at_last : length w - 1 ≡ suc (length name) = omega arith in
    let point : get_or w (length w - 2) 0 ≡ 46 = ap (λ k. get_or w k 0) at_point ∙ get_first name 46 (48 + out) in
    let last : last_byte w ≡ 48 + out = ap (λ k. get_or w k 0) at_last ∙ get_second name 46 (48 + out) in
    let front : take (length w - 2) w ≡ name = ap (λ k. take k w) at_point ∙ take-append_seam name (46 ∷ (48 + out) ∷ []) in
    let ends : ends_in_output w ≡ true =
    and_from _ _ (and_from _ _ (and_from _ _ (le-leb 2 (length w) (omega arith)) (eq-eqb _ _ point)) (le-leb 48 (last_byte w) (omega arith))) (le-leb (last_byte w) 55 (omega arith)) in
    let digit : last_byte w - 48 ≡ out = omega arith in
    (or_right _ _ (and_from _ _ ends (subst (λ v. is_name v ≡ true) (sym front) named)), by_point w name out (point_is_no_name name (48 + out)) front digit)
  where
    by_point : (w name : Word) (out : ℕ) → is_name w ≡ false → take (length w - 2) w ≡ name → last_byte w - 48 ≡ out → input_of w ≡ record { name = name; out = out }
    by_point w name out none front digit = rw none (ap (λ n. record { name = n; out = last_byte w - 48 }) front ∙ ap (λ k. record { name = name; out = k }) digit)

pub input_again : (input : SaidInput) → IsInput input → (is_input (input_word input) ≡ true) × (input_of (input_word input) ≡ input)
input_again input h =
    elim (cases_Bool (input.out == 0)) [
      | inl first ↦ let zero_is : input.out ≡ 0 = eqb-true _ _ first in rw first (or_left _ _ h.0, rw h.0 (ap (λ k. record { name = input.name; out = k }) (sym zero_is)))
      | inr other ↦ let digit = decimal_digit input.out (omega arith) in rw (other, digit) (point_again input.name input.out h.0 h.1)
    ]

pub up_to_again : (n : ℕ) (reads : List SaidInput) → length reads ≤ n → AreInputs reads → read (up_to n is_input input_of) (map input_word reads) ≡ Ok (reads, [])
up_to_again n [] few are = up_to_none n is_input input_of [] refl
up_to_again n (input ∷ reads) few are =
    let some : 0 < n = omega arith in
    let fits : length reads ≤ n - 1 = omega arith in
    let again = input_again input are.0 in
    up_to_yes n is_input input_of (input_word input ∷ map input_word reads) (map input_word reads) (input_word input) some refl again.0
    ∙ ap (with_front (input_of (input_word input) ∷ [])) (up_to_again (n - 1) reads fits are.1) ∙ ap (λ first. Ok (first ∷ reads, [])) again.1

from_again : (ws : List Word) → read (key (codes "from")) (codes "from" ∷ ws) ≡ Ok (tt, ws)
unfolding read
from_again ws = refl

pub inputs_again : (reads : List SaidInput) → is_within 1 8 (length reads) ≡ true → AreInputs reads → read inputs (inputs_words reads) ≡ Ok (reads, [])
inputs_again [] count are = absurd (cc)
inputs_again (input ∷ reads) count are =
    let most : length (input ∷ reads) ≤ 8 = leb-true _ _ (and_parts _ _ count).1 in
    let fits : length reads ≤ 7 = omega arith in
    let again = input_again input are.0 in
    inputs_first (inputs_words (input ∷ reads)) (input_word input ∷ map input_word reads) (map input_word reads) (input_word input) (from_again (input_word input ∷ map input_word reads)) refl again.0
    ∙ ap (with_front (input_of (input_word input) ∷ [])) (up_to_again 7 reads fits are.1) ∙ ap (λ first. Ok (first ∷ reads, [])) again.1

pub joined_again : (reads : List SaidInput) → is_within 2 8 (length reads) ≡ true → AreInputs reads → read joined_inputs (inputs_words reads) ≡ Ok (reads, [])
joined_again reads count are =
    let both = and_parts _ _ count in
    let many : 2 ≤ length reads = leb-true _ _ both.0 in
    let some : is_within 1 8 (length reads) ≡ true = and_from _ _ (le-leb 1 (length reads) (omega arith)) both.1 in
    joined_by (inputs_words reads) ∙ several_are (read inputs (inputs_words reads)) reads [] (inputs_again reads some are) many

pub name_again : (name : Word) (more : List Word) → is_name name ≡ true → read a_name (name ∷ more) ≡ Ok (name, more)
name_again name more named = read_one_yes is_name (λ w. w) (name ∷ more) more name refl named

pub a_demand_again : (d : SaidDemand) (more : List Word) → IsSoundDemand d → read a_demand (demand_word d ∷ more) ≡ Ok (d, more)
a_demand_again d more sound =
    let again = demand_again d sound in
    read_one_yes is_demand demand_of (demand_word d ∷ more) more (demand_word d) refl again.0 ∙ ap (λ said. Ok (said, more)) again.1

pub within_again : (least most n : ℕ) (more : List Word) → most < 10 ^ 19 → is_within least most n ≡ true → read (one (is_from_to least most) value_of) (decimal n ∷ more) ≡ Ok (n, more)
within_again least most n more small within =
    let both = and_parts _ _ within in
    let again = number_again n most (leb-true _ _ both.1) small in
    let passes : is_from_to least most (decimal n) ≡ true = and_from _ _ again.0 (subst (λ v. nat_le least v ≡ true) (sym again.1) both.0) in
    read_one_yes (is_from_to least most) value_of (decimal n ∷ more) more (decimal n) refl passes ∙ ap (λ v. Ok (v, more)) again.1
