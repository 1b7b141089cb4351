-- The network of drawn sections is that of a plan.
use Rattle.std.proofs.Common.{◌≡◌, ◌∙◌, refl, ap, ℕ, ◌≤◌, List, ◌∷◌, length, true, arith}
use Rattle.std.specs.Prelude.{map, nat_le}
use Rattle.std.specs.List.{flat_map, list_all, list_any}
use Rattle.std.specs.Str.{bytes_eq}
use Rattle.std.proofs.lemmas.Bool.{and_from, le-leb}
use Rattle.mq_core.specs.Names.{is_name}
use Rattle.mq_core.specs.Sound.{are_distinct, is_sound, same_input, version_of}
use Rattle.mq_core.specs.Ranges.{is_within}
use Rattle.mq_core.specs.Wiring.{is_source_kind, ranking}
use Rattle.mq_core.specs.declared.model.Node.{Node}
use Rattle.mq_core.specs.declared.model.Plan.{Plan}
use Rattle.mq_graph.specs.Cycle.{CyclesAreLeft, HasCycle}
use Rattle.mq_graph.specs.Rank.{AreWired}
use Rattle.rand_pcg.specs.Lcg.{Lcg}
use Rattle.mq_gen.specs.Made.{Sections, generator_of, network_from, sections_from, sections_of, source_node}
use Rattle.mq_gen.proofs.Forward.{all_ranked, no_cycle, wired}
use Rattle.mq_gen.proofs.Mentions.{Mentioned, columns_distinct, columns_in, columns_named, few_columns}
use Rattle.mq_gen.proofs.SectionNames.{all_names, distinct_front, names_distinct}
use Rattle.mq_gen.proofs.Sections.{AreMade, all_made, few_sections, inputs_in, is_station, name_of, nodes_count, sections_count}

-- the network of at most 12 sections is sound
pub made_sound : (count : ℕ) (s : Sections) → count ≤ 12 → AreMade count s → is_sound (network_from s) ≡ true
made_sound count s few made =
    let size = nodes_count count s made in
    let within : is_within 1 64 (length s.nodes) ≡ true = and_from _ _ (le-leb 1 (length s.nodes) (omega arith)) (le-leb (length s.nodes) 64 (omega arith)) in
    let narrow : nat_le (length s.columns) 16 ≡ true =
    let two = few_columns made.mentioned in
    le-leb (length s.columns) 16 (let e = ap length made.columns in omega arith)
    in
    let source : list_any (λ (node : Node). is_source_kind node.kind) s.nodes ≡ true =
    ap (list_any (λ (node : Node). is_source_kind node.kind)) made.nodes
    in
    let names : map name_of s.nodes ≡ all_names count = ap (map name_of) made.nodes ∙ ap (λ names. (source_node 0).name ∷ (source_node 1).name ∷ names) made.names in
    let distinct : are_distinct bytes_eq (map name_of s.nodes) ≡ true = ap (are_distinct bytes_eq) names ∙ names_distinct count (omega arith) in
    let named : list_all is_name s.columns ≡ true = ap (list_all is_name) made.columns ∙ columns_named made.mentioned in
    let apart : are_distinct bytes_eq s.columns ≡ true = ap (are_distinct bytes_eq) made.columns ∙ columns_distinct made.mentioned in
    let once : are_distinct same_input (flat_map inputs_in s.nodes) ≡ true = distinct_front same_input (flat_map inputs_in s.nodes) s.ends made.once in
    let first : list_all (λ (node : Node). nat_le (version_of node.kind) 1) s.nodes ≡ true = ap (list_all (λ (node : Node). nat_le (version_of node.kind) 1)) made.nodes ∙ made.first in
    and_from _ _ (and_from _ _ (and_from _ _ (and_from _ _ (and_from _ _ (and_from _ _ (and_from _ _ (and_from _ _ (and_from _ _ (and_from _ _ first within) narrow) refl) source) distinct) named) apart) made.sound) once) made.mentions

pub drawn_sound : (generator : Lcg) → is_sound (network_from (sections_from generator)) ≡ true
drawn_sound generator = made_sound (sections_count generator) (sections_from generator) (few_sections generator) (all_made generator)

pub drawn_wired : (generator : Lcg) → AreWired (sections_from generator).nodes
drawn_wired generator = wired (sections_from generator).nodes (all_made generator).forward

pub drawn_acyclic : (generator : Lcg) → ¬ HasCycle (sections_from generator).nodes
drawn_acyclic generator = no_cycle (sections_from generator).nodes (all_made generator).forward

pub drawn_small : (generator : Lcg) → length (sections_from generator).nodes ≤ 64
drawn_small generator =
    let size = nodes_count (sections_count generator) (sections_from generator) (all_made generator) in
    let few = few_sections generator in
    omega arith

-- what a plan of drawn sections is: two sources, and then at most 12 stations
pub record IsMadePlan (plan : Plan) (s : Sections) : Type 0 where
  pub net : plan.net ≡ network_from s
  pub later : List Node
  pub nodes : s.nodes ≡ source_node 0 ∷ source_node 1 ∷ later
  pub stations : list_all is_station later ≡ true
  pub few : length s.nodes ≤ 14
  pub mentioned : Mentioned
  pub columns : s.columns ≡ columns_in mentioned

-- a generator draws the network of a plan
pub drawn_plan : CyclesAreLeft → (generator : Lcg) → (plan : Plan) × IsMadePlan plan (sections_from generator)
drawn_plan cycles generator =
    let s = sections_from generator in
    let made = all_made generator in
    let size = nodes_count (sections_count generator) s made in
    let few = few_sections generator in
    let plan : Plan = record {
      net = network_from s;
      order = ranking s.nodes;
      sound = drawn_sound generator;
      ranked = refl;
      whole = all_ranked cycles s.nodes made.forward;
    }
    in
    (plan, record { net = refl; later = made.later; nodes = made.nodes; stations = made.stations; few = omega arith; mentioned = made.mentioned; columns = made.columns })

pub made_plan_of : CyclesAreLeft → (number : ℕ) → (plan : Plan) × IsMadePlan plan (sections_of number)
made_plan_of cycles number = drawn_plan cycles (generator_of number)
