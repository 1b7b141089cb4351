-- What the lines of a sound network say declares this network again.
use Rattle.std.proofs.Common.{◌≡◌, ◌∙◌, sym, ap, refl, ℕ, zero, suc, ◌<◌, List, [], ◌∷◌, ◌++◌, length, true, arith}
use Rattle.std.specs.Prelude.{map, slice_get, nat_le, ◌^◌}
use Rattle.std.specs.List.{All, list_all, flat_map, list_any}
use Rattle.std.specs.Str.{bytes_eq}
use Rattle.std.proofs.lemmas.Bool.{and_parts, ltb-true}
use Rattle.std.proofs.lemmas.List.{map-append, length-map}
use Rattle.mq_graph.specs.Rank.{AreWired}
use Rattle.mq_core.proofs.lemmas.Plans.{output_within}
use Rattle.mq_core.specs.Names.{is_name}
use Rattle.mq_core.specs.Sound.{are_distinct, columns_of_kind, is_output, is_sound, is_sound_kind, is_sound_node, mentions_from, same_input, version_of}
use Rattle.mq_core.specs.Ranges.{is_within}
use Rattle.mq_core.specs.Wiring.{is_source_kind}
use Rattle.mq_core.specs.declared.model.Input.{Input}
use Rattle.mq_core.specs.declared.model.Kind.{Kind}
use Rattle.mq_core.specs.declared.model.Kind.TheVariants as kind
use Rattle.mq_core.specs.declared.model.Network.{Network}
use Rattle.mq_core.specs.declared.model.Node.{Node}
use Rattle.mq_core.specs.declared.model.Route.TheVariants as route
use Rattle.mq_model.specs.Form.{Word}
use Rattle.mq_model.specs.NetworkOf.{input_in, kind_in, network_of, nodes_in, nodes_of, number_in}
use Rattle.mq_model.specs.Said.{columns_of, distinct_after, mentioned, mentions_of_kind, names_of}
use Rattle.mq_model.specs.SaidOf.{input_by, kind_by, name_at, names_in, node_by, saids_in}
use Rattle.mq_model.proofs.Demands.{demand_again, demand_mentions}
use Rattle.mq_model.proofs.Branches.{branches_again, branches_mentions}
use Rattle.mq_model.proofs.Stages.{stages_again, stages_mentions}
use Rattle.mq_model.proofs.NamesBack.{columns_again, number_again}

pub names_said : (names columns : List Word) (nodes : List Node) → names_of (map (node_by names columns) nodes) ≡ map (λ (node : Node). node.name) nodes
names_said names columns [] = refl
names_said names columns (node ∷ nodes) = ap (λ more. node.name ∷ more) (names_said names columns nodes)

mentions_said : (columns : List Word) (k : Kind) → mentions_of_kind (kind_by columns k) ≡ map (name_at columns) (columns_of_kind k)
mentions_said columns kind.Source = refl
mentions_said columns (kind.Server d) = demand_mentions columns d
mentions_said columns (kind.Delay d) = demand_mentions columns d
mentions_said columns (kind.Loss places d) = demand_mentions columns d
mentions_said columns (kind.Tandem stages) = stages_mentions columns stages
mentions_said columns (kind.ForkJoin branches) = branches_mentions columns branches
mentions_said columns (kind.Split (route.Modulo outputs column)) = refl
mentions_said columns (kind.Split (route.Turn outputs)) = refl
mentions_said columns (kind.Split (route.Cut column thresholds)) = refl
mentions_said columns (kind.Fork outputs) = refl
mentions_said columns kind.Join = refl
mentions_said columns (kind.Trunk servers d) = demand_mentions columns d

all_mentions_said : (names columns : List Word) (nodes : List Node) → flat_map mentioned (map (node_by names columns) nodes) ≡ map (name_at columns) (flat_map (λ (node : Node). columns_of_kind node.kind) nodes)
all_mentions_said names columns [] = refl
all_mentions_said names columns (node ∷ nodes) =
    ap (λ front. front ++ flat_map mentioned (map (node_by names columns) nodes)) (mentions_said columns node.kind)
    ∙ ap (λ more. map (name_at columns) (columns_of_kind node.kind) ++ more) (all_mentions_said names columns nodes)
    ∙ sym (map-append (name_at columns) (columns_of_kind node.kind) (flat_map (λ (node : Node). columns_of_kind node.kind) nodes))

-- Names become the numbers that they came from.
kind_again : (columns : List Word) (k : Kind) → are_distinct bytes_eq columns ≡ true → is_sound_kind (length columns) k ≡ true → kind_in columns (kind_by columns k) ≡ k
kind_again columns kind.Source distinct sound = refl
kind_again columns (kind.Server d) distinct sound = ap (λ d. kind.Server d) (demand_again columns d distinct sound)
kind_again columns (kind.Delay d) distinct sound = ap (λ d. kind.Delay d) (demand_again columns d distinct sound)
kind_again columns (kind.Loss places d) distinct sound = ap (λ d. kind.Loss places d) (demand_again columns d distinct (and_parts _ _ sound).1)
kind_again columns (kind.Tandem stages) distinct sound = ap (λ all. kind.Tandem all) (stages_again columns stages distinct sound)
kind_again columns (kind.ForkJoin branches) distinct sound = ap (λ all. kind.ForkJoin all) (branches_again columns branches distinct sound)
kind_again columns (kind.Split (route.Modulo outputs column)) distinct sound =
    ap (λ n. kind.Split (route.Modulo outputs n)) (number_again columns column [] distinct (ltb-true _ _ (and_parts _ _ sound).1))
kind_again columns (kind.Split (route.Turn outputs)) distinct sound = refl
kind_again columns (kind.Split (route.Cut column thresholds)) distinct sound =
    let small = and_parts _ _ sound in
    let rising = and_parts _ _ small.0 in
    let count = and_parts _ _ rising.0 in
    ap (λ n. kind.Split (route.Cut n thresholds)) (number_again columns column [] distinct (ltb-true _ _ count.0))
kind_again columns (kind.Fork outputs) distinct sound = refl
kind_again columns kind.Join distinct sound = refl
kind_again columns (kind.Trunk servers d) distinct sound = ap (λ d. kind.Trunk servers d) (demand_again columns d distinct (and_parts _ _ sound).1)

inputs_again : (names : List Word) (nodes : List Node) (inputs : List Input) → are_distinct bytes_eq names ≡ true → length names ≡ length nodes
    → list_all (λ (i : Input). is_output (slice_get nodes i.node) i.out) inputs ≡ true → map (input_in names) (map (input_by names) inputs) ≡ inputs
inputs_again names nodes [] distinct size h = refl
inputs_again names nodes (i ∷ inputs) distinct size h =
    let both = and_parts _ _ h in
    let within : i.node < length nodes = output_within nodes i.node i.out both.0 in
    let same : number_in names (name_at names i.node) ≡ i.node = number_again names i.node [] distinct (omega arith) in
    ap (λ n. record { node = n; out = i.out } ∷ map (input_in names) (map (input_by names) inputs)) same ∙ ap (λ more. i ∷ more) (inputs_again names nodes inputs distinct size both.1)

nodes_again : (names columns : List Word) (all nodes : List Node) → are_distinct bytes_eq names ≡ true → length names ≡ length all → are_distinct bytes_eq columns ≡ true
    → list_all (is_sound_node (length columns) all) nodes ≡ true → flat_map (nodes_in names columns) (map (node_by names columns) nodes) ≡ nodes
nodes_again names columns all [] named size distinct h = refl
nodes_again names columns all (node ∷ nodes) named size distinct h =
    let both = and_parts _ _ h in
    let name = and_parts _ _ both.0 in
    let inputs = and_parts _ _ name.0 in
    let counts = and_parts _ _ inputs.0 in
    ap (λ k. record { name = node.name; kind = k; inputs = map (input_in names) (map (input_by names) node.inputs) } ∷ flat_map (nodes_in names columns) (map (node_by names columns) nodes)) (kind_again columns node.kind distinct counts.0)
    ∙ ap (λ is. record { name = node.name; kind = node.kind; inputs = is } ∷ flat_map (nodes_in names columns) (map (node_by names columns) nodes)) (inputs_again names all node.inputs named size inputs.1)
    ∙ ap (λ more. node ∷ more) (nodes_again names columns all nodes named size distinct both.1)

-- The parts of a sound network.
pub record HasParts (net : Network) : Type 0 where
  pub version : is_within 1 2 net.version ≡ true
  pub kinds : list_all (λ (node : Node). nat_le (version_of node.kind) net.version) net.nodes ≡ true
  pub size : is_within 1 64 (length net.nodes) ≡ true
  pub few_columns : nat_le (length net.columns) 16 ≡ true
  pub bound : nat_le net.bound (2 ^ 60) ≡ true
  pub source : list_any (λ (node : Node). is_source_kind node.kind) net.nodes ≡ true
  pub named : are_distinct bytes_eq (names_in net) ≡ true
  pub column_names : list_all is_name net.columns ≡ true
  pub distinct : are_distinct bytes_eq net.columns ≡ true
  pub nodes : list_all (is_sound_node (length net.columns) net.nodes) net.nodes ≡ true
  pub once : are_distinct same_input (flat_map (λ (node : Node). node.inputs) net.nodes) ≡ true
  pub mentions : mentions_from 0 (length net.columns) (flat_map (λ (node : Node). columns_of_kind node.kind) net.nodes) ≡ true

pub has_parts : (net : Network) → is_sound net ≡ true → HasParts net
has_parts net sound =
    let mentions = and_parts _ _ sound in
    let once = and_parts _ _ mentions.0 in
    let nodes = and_parts _ _ once.0 in
    let distinct = and_parts _ _ nodes.0 in
    let column_names = and_parts _ _ distinct.0 in
    let named = and_parts _ _ column_names.0 in
    let source = and_parts _ _ named.0 in
    let bound = and_parts _ _ source.0 in
    let few_columns = and_parts _ _ bound.0 in
    let size = and_parts _ _ few_columns.0 in
    let version = and_parts _ _ size.0 in
    record {
      version = version.0;
      kinds = version.1;
      size = size.1;
      few_columns = few_columns.1;
      bound = bound.1;
      source = source.1;
      named = named.1;
      column_names = column_names.1;
      distinct = distinct.1;
      nodes = nodes.1;
      once = once.1;
      mentions = mentions.1;
    }

-- the network of what a sound network says is this network
pub network_again : (net : Network) → is_sound net ≡ true → network_of net.version (saids_in net) ≡ net
network_again net sound =
    let parts = has_parts net sound in
    let names : List Word = names_in net in
    let names_are : names_of (saids_in net) ≡ names = names_said names net.columns net.nodes in
    let mentions_are : flat_map mentioned (saids_in net) ≡ map (name_at net.columns) (flat_map (λ (node : Node). columns_of_kind node.kind) net.nodes) = all_mentions_said names net.columns net.nodes in
    let columns_are : columns_of (saids_in net) ≡ net.columns = ap (distinct_after []) mentions_are ∙ columns_again [] net.columns net.columns _ refl parts.distinct parts.mentions in
    let nodes_are : flat_map (nodes_in names net.columns) (saids_in net) ≡ net.nodes = nodes_again names net.columns net.nodes net.nodes parts.named (length-map net.nodes _) parts.distinct parts.nodes in
    let by_names : nodes_of (saids_in net) ≡ net.nodes =
    ap (λ all. flat_map (nodes_in all (columns_of (saids_in net))) (saids_in net)) names_are ∙ ap (λ columns. flat_map (nodes_in names columns) (saids_in net)) columns_are ∙ nodes_are in
    ap (λ nodes. record { nodes = nodes; columns = columns_of (saids_in net); bound = net.bound; version = net.version }) by_names
    ∙ ap (λ columns. record { nodes = net.nodes; columns = columns; bound = net.bound; version = net.version }) columns_are

inputs_wired : (nodes : List Node) (inputs : List Input) → list_all (λ (i : Input). is_output (slice_get nodes i.node) i.out) inputs ≡ true → All (λ (i : Input). i.node < length nodes) inputs
inputs_wired nodes [] h k d within = absurd (omega arith)
inputs_wired nodes (i ∷ inputs) h zero d within = let both = and_parts _ _ h in output_within nodes i.node i.out both.0
inputs_wired nodes (i ∷ inputs) h (suc k) d within = let both = and_parts _ _ h in inputs_wired nodes inputs both.1 k d (omega arith)

nodes_wired : (columns : ℕ) (all nodes : List Node) → list_all (is_sound_node columns all) nodes ≡ true → All (λ (node : Node). All (λ (i : Input). i.node < length all) node.inputs) nodes
nodes_wired columns all [] h k d within = absurd (omega arith)
nodes_wired columns all (node ∷ nodes) h zero d within =
    let both = and_parts _ _ h in
    let name = and_parts _ _ both.0 in
    let inputs = and_parts _ _ name.0 in
    inputs_wired all node.inputs inputs.1
nodes_wired columns all (node ∷ nodes) h (suc k) d within = let both = and_parts _ _ h in nodes_wired columns all nodes both.1 k d (omega arith)

-- each input of a sound network names a node
pub sound_is_wired : (net : Network) → is_sound net ≡ true → AreWired net.nodes
sound_is_wired net sound = nodes_wired (length net.columns) net.nodes net.nodes (has_parts net sound).nodes
