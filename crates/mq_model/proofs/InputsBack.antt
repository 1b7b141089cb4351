-- The inputs and the sources of a sound network, said by names, have no fault.
use Rattle.std.proofs.Common.{◌≡◌, ◌∙◌, sym, ap, refl, subst, ℕ, zero, suc, ◌<◌, List, [], ◌∷◌, ◌++◌, length, true, false, None, arith, inl, inr, append_assoc}
use Rattle.std.specs.Prelude.{map, slice_get}
use Rattle.std.specs.List.{list_all, list_any, flat_map}
use Rattle.std.specs.Str.{bytes_eq}
use Rattle.std.proofs.lemmas.Bool.{both_ways, and_parts, and_from, or_parts, or_cases, or_left, or_right, not-true, not_from_false, eq-eqb, false_from_ne_true}
use Rattle.std.proofs.lemmas.List.{map-append}
use Rattle.std.proofs.lemmas.List.Folds.{list_all-append}
use Rattle.mq_core.proofs.lemmas.Plans.{output_within}
use Rattle.mq_core.specs.Sound.{are_distinct, is_output, is_sound_node, outputs_in, same_input}
use Rattle.mq_core.specs.Wiring.{is_source_kind}
use Rattle.mq_core.specs.declared.model.Input.{Input}
use Rattle.mq_core.specs.declared.model.Kind.{Kind}
use Rattle.mq_core.specs.declared.model.Kind.TheVariants as kind
use Rattle.mq_core.specs.declared.model.Node.{Node}
use Rattle.mq_core.specs.declared.model.Route.TheVariants as route
use Rattle.mq_model.specs.Form.{Word}
use Rattle.mq_model.specs.Model.{PlacedInput, inputs_fault, reads_of_text}
use Rattle.mq_model.specs.NetworkOf.{number_in, saids_of}
use Rattle.mq_model.specs.Said.{gives, is_same_input, is_source, outputs_of, reads_of}
use Rattle.mq_model.specs.SaidOf.{input_by, kind_by, name_at, node_by}
use Rattle.mq_model.specs.declared.said.SaidInput.{SaidInput}
use Rattle.mq_model.specs.declared.said.Said.{Said}
use Rattle.mq_model.specs.declared.said.Said.TheVariants as said
use Rattle.mq_model.proofs.NamesBack.{number_again, others_before}
use Rattle.mq_model.proofs.SoundColumns.{name_is, same_name}
use Rattle.mq_model.proofs.SoundInputs.{input_at, list_any_turned, reads_from, same_input_turned}

-- inputs that are given, no two the same, have no fault
no_fault_from : (saids : List Said) (taken : List SaidInput) (reads : List PlacedInput) → list_all (λ (i : SaidInput). list_any (gives i) saids) (map input_at reads) ≡ true
    → are_distinct is_same_input (taken ++ map input_at reads) ≡ true → inputs_fault saids taken reads ≡ None
unfolding inputs_fault
no_fault_from saids taken [] given distinct = refl
no_fault_from saids taken (read ∷ more) given distinct =
    let both = and_parts (list_any (gives read.2) saids) (list_all (λ (i : SaidInput). list_any (gives i) saids) (map input_at more)) given in
    let apart = others_before is_same_input taken read.2 (map input_at more) distinct in
    let free : list_any (is_same_input read.2) taken ≡ false = list_any_turned (λ a b. is_same_input b a) read.2 taken (λ input. same_input_turned read.2 input) apart in
    rw (both.0, free) (no_fault_from saids (taken ++ read.2 ∷ []) more both.1 (subst (λ xs. are_distinct is_same_input xs ≡ true) (sym (append_assoc taken (read.2 ∷ []) (map input_at more))) distinct))

pub no_inputs_fault : (ls : List (List ℕ)) → list_all (λ (i : SaidInput). list_any (gives i) (saids_of ls)) (flat_map reads_of (saids_of ls)) ≡ true
    → are_distinct is_same_input (flat_map reads_of (saids_of ls)) ≡ true → inputs_fault (saids_of ls) [] (reads_of_text ls) ≡ None
no_inputs_fault ls given distinct =
    let same = sym (reads_from 1 ls) in
    no_fault_from (saids_of ls) [] (reads_of_text ls) (subst (λ is. list_all (λ (i : SaidInput). list_any (gives i) (saids_of ls)) is ≡ true) same given) (subst (λ is. are_distinct is_same_input is ≡ true) same distinct)

-- The inputs of the nodes, by names.
pub reads_said : (names columns : List Word) (nodes : List Node) → flat_map reads_of (map (node_by names columns) nodes) ≡ map (input_by names) (flat_map (λ (node : Node). node.inputs) nodes)
reads_said names columns [] = refl
reads_said names columns (node ∷ nodes) =
    ap (λ more. map (input_by names) node.inputs ++ more) (reads_said names columns nodes) ∙ sym (map-append (input_by names) node.inputs (flat_map (λ (node : Node). node.inputs) nodes))

outputs_said : (columns : List Word) (k : Kind) → outputs_of (kind_by columns k) ≡ outputs_in k
outputs_said columns kind.Source = refl
outputs_said columns (kind.Server d) = refl
outputs_said columns (kind.Delay d) = refl
outputs_said columns (kind.Loss places d) = refl
outputs_said columns (kind.Tandem stages) = refl
outputs_said columns (kind.ForkJoin branches) = refl
outputs_said columns (kind.Split (route.Modulo outputs column)) = refl
outputs_said columns (kind.Split (route.Turn outputs)) = refl
outputs_said columns (kind.Split (route.Cut column thresholds)) = refl
outputs_said columns (kind.Fork outputs) = refl
outputs_said columns kind.Join = refl
outputs_said columns (kind.Trunk servers d) = refl

-- an output that there is is given by its node's name
given_back : (names columns : List Word) (nodes : List Node) (n out : ℕ) → is_output (slice_get nodes n) out ≡ true
    → list_any (gives (record { name = name_at (map (λ (node : Node). node.name) nodes) n; out = out })) (map (node_by names columns) nodes) ≡ true
given_back names columns [] n out h = absurd (cc)
given_back names columns (node ∷ nodes) zero out h = or_left _ _ (and_from _ _ (same_name node.name) (rw (outputs_said columns node.kind) h))
given_back names columns (node ∷ nodes) (suc n) out h = or_right _ _ (given_back names columns nodes n out h)

pub all_given_back : (columns : List Word) (nodes : List Node) (inputs : List Input) → list_all (λ (i : Input). is_output (slice_get nodes i.node) i.out) inputs ≡ true
    → list_all (λ (i : SaidInput). list_any (gives i) (map (node_by (map (λ (node : Node). node.name) nodes) columns) nodes)) (map (input_by (map (λ (node : Node). node.name) nodes)) inputs) ≡ true
all_given_back columns nodes [] h = refl
all_given_back columns nodes (i ∷ inputs) h =
    let both = and_parts _ _ h in
    and_from _ _ (given_back (map (λ (node : Node). node.name) nodes) columns nodes i.node i.out both.0) (all_given_back columns nodes inputs both.1)

pub all_outputs_in : (columns : ℕ) (all nodes : List Node) → list_all (is_sound_node columns all) nodes ≡ true
    → list_all (λ (i : Input). is_output (slice_get all i.node) i.out) (flat_map (λ (node : Node). node.inputs) nodes) ≡ true
all_outputs_in columns all [] h = refl
all_outputs_in columns all (node ∷ nodes) h =
    let both = and_parts _ _ h in
    let name = and_parts _ _ both.0 in
    let inputs = and_parts _ _ name.0 in
    list_all-append (λ (i : Input). is_output (slice_get all i.node) i.out) node.inputs (flat_map (λ (node : Node). node.inputs) nodes) ∙ and_from _ _ inputs.1 (all_outputs_in columns all nodes both.1)

-- By names, inputs stay apart.
apart_back : (names : List Word) (nodes : List Node) (a : Input) (inputs : List Input) → are_distinct bytes_eq names ≡ true → length names ≡ length nodes → is_output (slice_get nodes a.node) a.out ≡ true
    → list_all (λ (i : Input). is_output (slice_get nodes i.node) i.out) inputs ≡ true → list_any (same_input a) inputs ≡ false → list_any (is_same_input (input_by names a)) (map (input_by names) inputs) ≡ false
apart_back names nodes a [] distinct size here all apart = refl
apart_back names nodes a (b ∷ inputs) distinct size here all apart =
    let both = and_parts _ _ all in
    let others = or_parts (same_input a b) (list_any (same_input a) inputs) apart in
    let a_below : a.node < length nodes = output_within nodes a.node a.out here in
    let b_below : b.node < length nodes = output_within nodes b.node b.out both.0 in
    let a_again : number_in names (name_at names a.node) ≡ a.node = number_again names a.node [] distinct (omega arith) in
    let b_again : number_in names (name_at names b.node) ≡ b.node = number_again names b.node [] distinct (omega arith) in
    let differ : is_same_input (input_by names a) (input_by names b) ≡ false =
    false_from_ne_true _ (λ h. let same = and_parts _ _ h in
    let node : a.node ≡ b.node = sym a_again ∙ ap (number_in names) (name_is _ _ same.0) ∙ b_again in
    both_ways _ others.0 (and_from _ _ (eq-eqb a.node b.node node) same.1)) in
    rw differ (apart_back names nodes a inputs distinct size here both.1 others.1)

pub distinct_back : (names : List Word) (nodes : List Node) (inputs : List Input) → are_distinct bytes_eq names ≡ true → length names ≡ length nodes
    → list_all (λ (i : Input). is_output (slice_get nodes i.node) i.out) inputs ≡ true → are_distinct same_input inputs ≡ true → are_distinct is_same_input (map (input_by names) inputs) ≡ true
distinct_back names nodes [] distinct size all apart = refl
distinct_back names nodes (i ∷ inputs) distinct size all apart =
    let both = and_parts _ _ all in
    let alone = and_parts _ _ apart in
    and_from _ _ (not_from_false _ (apart_back names nodes i inputs distinct size both.0 both.1 (not-true _ alone.0))) (distinct_back names nodes inputs distinct size both.1 alone.1)

source_said : (columns : List Word) (k : Kind) (own : Word) (reads : List SaidInput) → is_source (said.Node own (kind_by columns k) reads) ≡ is_source_kind k
source_said columns kind.Source own reads = refl
source_said columns (kind.Server d) own reads = refl
source_said columns (kind.Delay d) own reads = refl
source_said columns (kind.Loss places d) own reads = refl
source_said columns (kind.Tandem stages) own reads = refl
source_said columns (kind.ForkJoin branches) own reads = refl
source_said columns (kind.Split r) own reads = refl
source_said columns (kind.Fork outputs) own reads = refl
source_said columns kind.Join own reads = refl
source_said columns (kind.Trunk servers d) own reads = refl

pub source_back : (names columns : List Word) (nodes : List Node) → list_any (λ (node : Node). is_source_kind node.kind) nodes ≡ true → list_any is_source (map (node_by names columns) nodes) ≡ true
source_back names columns [] h = absurd (cc)
source_back names columns (node ∷ nodes) h =
    elim (or_cases (is_source_kind node.kind) (list_any (λ (node : Node). is_source_kind node.kind) nodes) h) [
      | inl here ↦ or_left _ _ (source_said columns node.kind node.name (map (input_by names) node.inputs) ∙ here)
      | inr later ↦ or_right _ _ (source_back names columns nodes later)
    ]
