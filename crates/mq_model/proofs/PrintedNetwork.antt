-- What the lines of a sound network say is in its ranges.
use Rattle.std.proofs.Common.{◌≡◌, refl, ℕ, zero, suc, ◌<◌, ◌≤◌, List, [], ◌∷◌, length, true, arith}
use Rattle.std.specs.Prelude.{map, slice_get}
use Rattle.std.specs.List.{list_all}
use Rattle.std.proofs.lemmas.Bool.{and_parts, and_from, leb-true, ltb-true}
use Rattle.std.proofs.lemmas.List.{length-map}
use Rattle.mq_base.proofs.lemmas.Tests.{all_at}
use Rattle.mq_core.proofs.lemmas.Plans.{output_within}
use Rattle.mq_core.specs.Names.{is_name}
use Rattle.mq_core.specs.Sound.{is_output, is_sound, is_sound_count, is_sound_kind, is_sound_node, outputs_in}
use Rattle.mq_core.specs.declared.model.Input.{Input}
use Rattle.mq_core.specs.declared.model.Kind.{Kind}
use Rattle.mq_core.specs.declared.model.Kind.TheVariants as kind
use Rattle.mq_core.specs.declared.model.Network.{Network}
use Rattle.mq_core.specs.declared.model.Node.{Node}
use Rattle.mq_core.specs.declared.model.Route.TheVariants as route
use Rattle.mq_model.specs.Form.{Word}
use Rattle.mq_model.specs.Said.{reads_of}
use Rattle.mq_model.specs.SaidOf.{input_by, kind_by, names_in, node_by, saids_in}
use Rattle.mq_model.specs.declared.said.Said.{Said}
use Rattle.mq_model.proofs.NetworkBack.{has_parts}
use Rattle.mq_model.proofs.Demands.{demand_said}
use Rattle.mq_model.proofs.Branches.{branches_said}
use Rattle.mq_model.proofs.Stages.{stages_said}
use Rattle.mq_model.proofs.PrintedParts.{AreInputs}
use Rattle.mq_model.proofs.SoundLines.{IsSoundKind, IsSoundSaid, is_sound_reads}

nodes_named : (columns : ℕ) (all nodes : List Node) → list_all (is_sound_node columns all) nodes ≡ true → list_all is_name (map (λ (node : Node). node.name) nodes) ≡ true
nodes_named columns all [] h = refl
nodes_named columns all (node ∷ nodes) h = let both = and_parts _ _ h in let own = and_parts _ _ both.0 in and_from _ _ own.1 (nodes_named columns all nodes both.1)

few_outputs : (columns : ℕ) (k : Kind) → is_sound_kind columns k ≡ true → outputs_in k ≤ 8
few_outputs columns kind.Source h = omega arith
few_outputs columns (kind.Server d) h = omega arith
few_outputs columns (kind.Delay d) h = omega arith
few_outputs columns (kind.Loss places d) h = omega arith
few_outputs columns (kind.Tandem stages) h = omega arith
few_outputs columns (kind.ForkJoin branches) h = omega arith
few_outputs columns (kind.Split (route.Modulo outputs column)) h = leb-true _ _ (and_parts _ _ (and_parts _ _ h).0).1
few_outputs columns (kind.Split (route.Turn outputs)) h = leb-true _ _ (and_parts _ _ h).1
few_outputs columns (kind.Split (route.Cut column thresholds)) h =
    let small = and_parts _ _ h in
    let rising = and_parts _ _ small.0 in
    let count = and_parts _ _ rising.0 in
    let most : length thresholds ≤ 7 = leb-true _ _ (and_parts _ _ count.1).1 in
    omega arith
few_outputs columns (kind.Fork outputs) h = let most : outputs ≤ 4 = leb-true _ _ (and_parts _ _ h).1 in omega arith
few_outputs columns kind.Join h = omega arith
few_outputs columns (kind.Trunk servers d) h = omega arith

small_output : (columns : ℕ) (all nodes : List Node) (n out : ℕ) → list_all (is_sound_node columns all) nodes ≡ true → is_output (slice_get nodes n) out ≡ true → out ≤ 7
small_output columns all [] n out h output = absurd (cc)
small_output columns all (node ∷ nodes) zero out h output =
    let both = and_parts _ _ h in
    let own = and_parts _ _ both.0 in
    let inputs = and_parts _ _ own.0 in
    let counts = and_parts _ _ inputs.0 in
    let most = few_outputs columns node.kind counts.0 in
    let below : out < outputs_in node.kind = ltb-true _ _ output in
    omega arith
small_output columns all (node ∷ nodes) (suc n) out h output = small_output columns all nodes n out (and_parts _ _ h).1 output

kind_said : (columns : List Word) (k : Kind) → list_all is_name columns ≡ true → is_sound_kind (length columns) k ≡ true → IsSoundKind (kind_by columns k)
kind_said columns kind.Source named h = tt
kind_said columns (kind.Server d) named h = demand_said columns d named h
kind_said columns (kind.Delay d) named h = demand_said columns d named h
kind_said columns (kind.Loss places d) named h = let both = and_parts _ _ h in (both.0, demand_said columns d named both.1)
kind_said columns (kind.Tandem stages) named h = stages_said columns stages named h
kind_said columns (kind.ForkJoin branches) named h = branches_said columns branches named h
kind_said columns (kind.Split (route.Modulo outputs column)) named h = let both = and_parts _ _ h in (both.0, all_at is_name columns column [] named (ltb-true _ _ both.1))
kind_said columns (kind.Split (route.Turn outputs)) named h = h
kind_said columns (kind.Split (route.Cut column thresholds)) named h =
    let small = and_parts _ _ h in
    let rising = and_parts _ _ small.0 in
    let count = and_parts _ _ rising.0 in
    (all_at is_name columns column [] named (ltb-true _ _ count.0), (count.1, rising.1, small.1))
kind_said columns (kind.Fork outputs) named h = h
kind_said columns kind.Join named h = tt
kind_said columns (kind.Trunk servers d) named h = let both = and_parts _ _ h in (both.0, demand_said columns d named both.1)

count_said : (columns : List Word) (k : Kind) (n : ℕ) → is_sound_count k n ≡ true → is_sound_reads (kind_by columns k) n ≡ true
count_said columns kind.Source n h = h
count_said columns (kind.Server d) n h = h
count_said columns (kind.Delay d) n h = h
count_said columns (kind.Loss places d) n h = h
count_said columns (kind.Tandem stages) n h = h
count_said columns (kind.ForkJoin branches) n h = h
count_said columns (kind.Split r) n h = h
count_said columns (kind.Fork outputs) n h = h
count_said columns kind.Join n h = h
count_said columns (kind.Trunk servers d) n h = h

inputs_said : (names : List Word) (columns : ℕ) (all : List Node) (inputs : List Input) → list_all is_name names ≡ true → length names ≡ length all → list_all (is_sound_node columns all) all ≡ true
    → list_all (λ (i : Input). is_output (slice_get all i.node) i.out) inputs ≡ true → AreInputs (map (input_by names) inputs)
inputs_said names columns all [] named size sound h = tt
inputs_said names columns all (i ∷ inputs) named size sound h =
    let both = and_parts _ _ h in
    let within : i.node < length all = output_within all i.node i.out both.0 in
    ((all_at is_name names i.node [] named (omega arith), small_output columns all all i.node i.out sound both.0), inputs_said names columns all inputs named size sound both.1)

-- Every line is in its ranges.
abbrev pub AreInRange : List Said → Type 0
AreInRange [] = Unit {0}
AreInRange (said ∷ saids) = IsSoundSaid said × AreInputs (reads_of said) × AreInRange saids

nodes_in_range : (names columns : List Word) (all nodes : List Node) → list_all is_name names ≡ true → length names ≡ length all → list_all is_name columns ≡ true
    → list_all (is_sound_node (length columns) all) all ≡ true → list_all (is_sound_node (length columns) all) nodes ≡ true → AreInRange (map (node_by names columns) nodes)
nodes_in_range names columns all [] named size told sound h = tt
nodes_in_range names columns all (node ∷ nodes) named size told sound h =
    let both = and_parts _ _ h in
    let own = and_parts _ _ both.0 in
    let inputs = and_parts _ _ own.0 in
    let counts = and_parts _ _ inputs.0 in
    let count : is_sound_reads (kind_by columns node.kind) (length (map (input_by names) node.inputs)) ≡ true = rw (length-map node.inputs (input_by names)) (count_said columns node.kind (length node.inputs) counts.1) in
    ((own.1, kind_said columns node.kind told counts.0, count), inputs_said names (length columns) all node.inputs named size sound inputs.1, nodes_in_range names columns all nodes named size told sound both.1)

pub said_in_range : (net : Network) → is_sound net ≡ true → AreInRange (saids_in net)
said_in_range net sound =
    let parts = has_parts net sound in
    let named = nodes_named (length net.columns) net.nodes net.nodes parts.nodes in
    (parts.bound, tt, nodes_in_range (names_in net) net.columns net.nodes net.nodes named (length-map net.nodes _) parts.column_names parts.nodes parts.nodes)
