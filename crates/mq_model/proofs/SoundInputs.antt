-- The inputs of a text without a fault, by numbers: each names an output that there is, and no two the same.
use Rattle.std.proofs.Common.{◌≡◌, ◌∙◌, sym, ap, refl, subst, ℕ, suc, ◌+◌, List, [], ◌∷◌, ◌++◌, Bool, true, false, Option, Some, None, arith, inl, inr, append_assoc}
use Rattle.std.specs.Prelude.{map, ◌&&◌, nat_lt, slice_get}
use Rattle.std.specs.List.{list_all, list_any, flat_map, enumerate_from}
use Rattle.std.specs.Str.{bytes_eq}
use Rattle.std.proofs.lemmas.Bool.{cases_Bool, both_ways, and_parts, and_from, or_parts, or_cases, or_right, not-false, not-true, not_from_false, eqb-true, eq-eqb, false_from_ne_true}
use Rattle.std.proofs.lemmas.List.{append-nil, map-append}
use Rattle.mq_core.specs.Sound.{are_distinct, is_output, outputs_in, same_input}
use Rattle.mq_model.specs.Form.{Word}
use Rattle.mq_model.specs.Model.{PlacedInput, inputs_fault, reads_of_line, reads_of_text}
use Rattle.mq_model.specs.NetworkOf.{input_in, kind_in, nodes_in, number_in, said_of, saids_of}
use Rattle.mq_model.specs.Said.{gives, is_among, is_same_input, names_of, outputs_of, reads_of}
use Rattle.mq_model.specs.declared.said.SaidInput.{SaidInput}
use Rattle.mq_model.specs.declared.said.SaidKind.{SaidKind}
use Rattle.mq_model.specs.declared.said.SaidKind.TheVariants.{Source, Server, Delay, Loss, Tandem, ForkJoin, Split, Fork, Join, Trunk}
use Rattle.mq_model.specs.declared.said.SaidRoute.TheVariants.{Modulo, Turn, Cut}
use Rattle.mq_model.specs.declared.said.Said.{Said}
use Rattle.mq_model.specs.declared.said.Said.TheVariants as said
use Rattle.mq_model.proofs.SoundColumns.{name_is, bytes_eq_comm, are_distinct_push}
use Rattle.mq_model.proofs.SoundText.{cond_none}

-- The inputs of the text are those of its lines.
abbrev pub input_at : PlacedInput → SaidInput
input_at read = read.2

numbered : (i n : ℕ) (inputs : List SaidInput) → map input_at (map (λ (port, input). (i, port, input)) (enumerate_from n inputs)) ≡ inputs
numbered i n [] = refl
numbered i n (input ∷ inputs) = ap (λ more. input ∷ more) (numbered i (n + 1) inputs)

abbrev reads_at : ℕ → Option Said → List PlacedInput
reads_at n None = []
reads_at n (Some said) = map (λ (port, input). (n, port, input)) (enumerate_from 0 (reads_of said))

reads_here : (n : ℕ) (l : List ℕ) (o : Option Said) → said_of l ≡ o → reads_of_line (n, l) ≡ reads_at n o
reads_here n l o says = ap (reads_at n) says

pub reads_from : (n : ℕ) (ls : List (List ℕ)) → map input_at (flat_map reads_of_line (enumerate_from n ls)) ≡ flat_map reads_of (saids_of ls)
reads_from n [] = refl
reads_from n (l ∷ ls) = map-append input_at (reads_of_line (n, l)) (flat_map reads_of_line (enumerate_from (n + 1) ls)) ∙ go (said_of l) refl (reads_from (n + 1) ls)
  where
    go : (o : Option Said) → said_of l ≡ o → map input_at (flat_map reads_of_line (enumerate_from (n + 1) ls)) ≡ flat_map reads_of (saids_of ls)
        → map input_at (reads_of_line (n, l)) ++ map input_at (flat_map reads_of_line (enumerate_from (n + 1) ls)) ≡ flat_map reads_of (saids_of (l ∷ ls))
    go None says later =
        let here : map input_at (reads_of_line (n, l)) ≡ [] = ap (map input_at) (reads_here n l None says) in
        rw (here, says) later
    go (Some said) says later =
        let here : map input_at (reads_of_line (n, l)) ≡ reads_of said = ap (map input_at) (reads_here n l (Some said) says) ∙ numbered n 0 (reads_of said) in
        rw (here, says, later) refl

-- a test fails with its arguments changed round
pub list_any_turned : {X : Type 0} (same : X → X → Bool) (y : X) (xs : List X) → ((x : X) → same x y ≡ true → same y x ≡ true) → list_any (same y) xs ≡ false → list_any (λ x. same x y) xs ≡ false
list_any_turned same y [] turn h = refl
list_any_turned same y (x ∷ xs) turn h =
    let (other, others) = or_parts (same y x) (list_any (same y) xs) h in
    let here : same x y ≡ false = false_from_ne_true (same x y) (λ yes. both_ways _ other (turn x yes)) in
    rw here (list_any_turned same y xs turn others)

pub same_input_turned : (a b : SaidInput) → is_same_input a b ≡ true → is_same_input b a ≡ true
same_input_turned a b h = let both = and_parts _ _ h in and_from _ _ (bytes_eq_comm a.name b.name both.0) (eq-eqb b.out a.out (sym (eqb-true a.out b.out both.1)))

-- Each input names an output that there is, and no two the same.
pub record AreInputs (saids : List Said) (taken inputs : List SaidInput) : Type 0 where
  pub given : list_all (λ input. list_any (gives input) saids) inputs ≡ true
  pub distinct : are_distinct is_same_input taken ≡ true → are_distinct is_same_input (taken ++ inputs) ≡ true

are_inputs : (saids : List Said) (taken : List SaidInput) (reads : List PlacedInput) → inputs_fault saids taken reads ≡ None → AreInputs saids taken (map input_at reads)
unfolding inputs_fault
are_inputs saids taken [] none = record { given = refl; distinct = λ h. rw (append-nil taken) h }
are_inputs saids taken (read ∷ more) none =
    let given = cond_none _ _ _ none in
    let free = cond_none _ _ _ given.1 in
    let later = are_inputs saids (taken ++ read.2 ∷ []) more free.1 in
    let new : list_any (λ input. is_same_input input read.2) taken ≡ false = list_any_turned is_same_input read.2 taken (λ input. same_input_turned input read.2) free.0 in
    record {
      given = and_from _ _ (not-false _ given.0) later.given;
      distinct = λ h. subst (λ inputs. are_distinct is_same_input inputs ≡ true) (append_assoc taken (read.2 ∷ []) (map input_at more)) (later.distinct (are_distinct_push is_same_input taken read.2 h new));
    }

pub told_are_inputs : (ls : List (List ℕ)) → inputs_fault (saids_of ls) [] (reads_of_text ls) ≡ None → AreInputs (saids_of ls) [] (flat_map reads_of (saids_of ls))
told_are_inputs ls none = subst (AreInputs (saids_of ls) []) (reads_from 1 ls) (are_inputs (saids_of ls) [] (reads_of_text ls) none)

-- Names have one number each.
pub same_number : (names : List Word) (a b : Word) → is_among names a ≡ true → is_among names b ≡ true → number_in names a ≡ number_in names b → bytes_eq a b ≡ true
same_number [] a b h k e = absurd (cc)
same_number (name ∷ names) a b h k e =
    elim (cases_Bool (bytes_eq name a)) [
      | inl is_a ↦
          elim (cases_Bool (bytes_eq name b)) [
            | inl is_b ↦ subst (λ n. bytes_eq n b ≡ true) (name_is name a is_a) is_b
            | inr not_b ↦ let apart = rw (is_a, not_b) at e in absurd (omega arith)
          ]
      | inr not_a ↦
          elim (cases_Bool (bytes_eq name b)) [
            | inl is_b ↦ let apart = rw (not_a, is_b) at e in absurd (omega arith)
            | inr not_b ↦
                let later = rw (not_a, not_b) at e in
                same_number names a b (rw not_a at h) (rw not_b at k) (omega arith)
          ]
    ]

-- an input is given by a node of its name
pub given_among : (input : SaidInput) (saids : List Said) → list_any (gives input) saids ≡ true → is_among (names_of saids) input.name ≡ true
given_among input [] h = absurd (cc)
given_among input (said.Bound n ∷ saids) h = given_among input saids h
given_among input (said.Node name kind reads ∷ saids) h =
    elim (or_cases (bytes_eq name input.name && nat_lt input.out (outputs_of kind)) (list_any (gives input) saids) h) [
      | inl here ↦ let is : bytes_eq name input.name ≡ true = (and_parts _ _ here).0 in rw is refl
      | inr later ↦ or_right _ _ (given_among input saids later)
    ]

outputs_are : (columns : List Word) (kind : SaidKind) → outputs_in (kind_in columns kind) ≡ outputs_of kind
outputs_are columns Source = refl
outputs_are columns (Server d) = refl
outputs_are columns (Delay d) = refl
outputs_are columns (Loss places d) = refl
outputs_are columns (Tandem stages) = refl
outputs_are columns (ForkJoin branches) = refl
outputs_are columns (Split (Modulo outputs column)) = refl
outputs_are columns (Split (Turn outputs)) = refl
outputs_are columns (Split (Cut column thresholds)) = refl
outputs_are columns (Fork outputs) = refl
outputs_are columns Join = refl
outputs_are columns (Trunk servers d) = refl

-- the node of the input's number has its output
pub given_output : (names columns : List Word) (input : SaidInput) (saids : List Said) → are_distinct bytes_eq (names_of saids) ≡ true → list_any (gives input) saids ≡ true
    → is_output (slice_get (flat_map (nodes_in names columns) saids) (number_in (names_of saids) input.name)) input.out ≡ true
given_output names columns input [] distinct h = absurd (cc)
given_output names columns input (said.Bound n ∷ saids) distinct h = given_output names columns input saids distinct h
given_output names columns input (said.Node name kind reads ∷ saids) distinct h =
    let alone = and_parts _ _ distinct in
    elim (cases_Bool (bytes_eq name input.name)) [
      | inl is ↦
          rw is (elim (or_cases (bytes_eq name input.name && nat_lt input.out (outputs_of kind)) (list_any (gives input) saids) h) [
            | inl here ↦ let both = and_parts _ _ here in rw (outputs_are columns kind) both.1
            | inr later ↦
                let among = given_among input saids later in
                let same : is_among (names_of saids) name ≡ true = subst (λ n. is_among (names_of saids) n ≡ true) (sym (name_is name input.name is)) among in
                let turned = list_any_turned bytes_eq name (names_of saids) (λ other. bytes_eq_comm other name) (not-true _ alone.0) in
                absurd (both_ways _ turned same)
          ])
      | inr other ↦
          let later : list_any (gives input) saids ≡ true = rw other at h in
          let next : 1 + number_in (names_of saids) input.name ≡ suc (number_in (names_of saids) input.name) = omega arith in
          rw (other, next) (given_output names columns input saids alone.1 later)
    ]

-- By numbers, inputs stay apart.
number_apart : (names : List Word) (a : SaidInput) (inputs : List SaidInput) → is_among names a.name ≡ true → list_all (λ input. is_among names input.name) inputs ≡ true
    → list_any (is_same_input a) inputs ≡ false → list_any (same_input (input_in names a)) (map (input_in names) inputs) ≡ false
number_apart names a [] known all apart = refl
number_apart names a (b ∷ inputs) known all apart =
    let (here, later) = and_parts _ _ all in
    let (other, others) = or_parts (is_same_input a b) (list_any (is_same_input a) inputs) apart in
    let differ : same_input (input_in names a) (input_in names b) ≡ false =
    false_from_ne_true _ (λ h. let both = and_parts _ _ h in
    let same : bytes_eq a.name b.name ≡ true = same_number names a.name b.name known here (eqb-true _ _ both.0) in
    both_ways _ other (and_from _ _ same both.1)) in
    rw differ (number_apart names a inputs known later others)

pub numbers_distinct : (names : List Word) (inputs : List SaidInput) → list_all (λ input. is_among names input.name) inputs ≡ true → are_distinct is_same_input inputs ≡ true
    → are_distinct same_input (map (input_in names) inputs) ≡ true
numbers_distinct names [] all distinct = refl
numbers_distinct names (a ∷ inputs) all distinct =
    let (here, later) = and_parts _ _ all in
    let alone = and_parts _ _ distinct in
    and_from _ _ (not_from_false _ (number_apart names a inputs here later (not-true _ alone.0))) (numbers_distinct names inputs later alone.1)
