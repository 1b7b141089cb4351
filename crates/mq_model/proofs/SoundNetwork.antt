-- The network of a text without a fault is sound.
use Rattle.std.proofs.Common.{◌≡◌, ◌∙◌, sym, ap, refl, ℕ, ◌≤◌, ◌^◌, List, [], ◌∷◌, ◌++◌, length, Bool, true, None, arith, inl, inr, append_assoc, IsTrue}
use Rattle.std.specs.Prelude.{map, nat_le, slice_get}
use Rattle.std.specs.List.{list_all, list_any, flat_map}
use Rattle.std.specs.Str.{bytes_eq}
use Rattle.std.proofs.lemmas.Bool.{cases_Bool, and_parts, and_from, or_cases, or_left, or_right, le-leb}
use Rattle.std.proofs.lemmas.List.{map-append, length-map}
use Rattle.std.proofs.lemmas.List.Folds.{list_all-append, list_any-append}
use Rattle.mq_core.specs.Names.{is_name}
use Rattle.mq_core.specs.Sound.{are_distinct, columns_of_kind, is_output, is_sound, is_sound_count, is_sound_kind, is_sound_node, mentions_from, same_input}
use Rattle.mq_core.specs.Ranges.{is_within}
use Rattle.mq_core.specs.Wiring.{is_source_kind}
use Rattle.mq_core.specs.declared.model.Input.{Input}
use Rattle.mq_core.specs.declared.model.Node.{Node}
use Rattle.mq_model.specs.Form.{Word}
use Rattle.mq_model.specs.Head.{version_in}
use Rattle.mq_model.proofs.HeadFacts.{version_within}
use Rattle.mq_model.proofs.Lists.{AreAll}
use Rattle.mq_model.specs.Model.{inputs_fault, lines_fault, reads_of_text}
use Rattle.mq_model.specs.NetworkOf.{bound_of, input_in, kind_in, network_of, nodes_in, nodes_of, number_in, saids_of}
use Rattle.mq_model.specs.Said.{columns_of, distinct_after, gives, is_among, is_source, is_source_said, mentioned, mentions_of_kind, names_of, reads_of}
use Rattle.mq_model.specs.declared.said.SaidInput.{SaidInput}
use Rattle.mq_model.specs.declared.said.SaidKind.{SaidKind}
use Rattle.mq_model.specs.declared.said.SaidKind.TheVariants.{Source, Server, Delay, Loss, Tandem, ForkJoin, Split, Fork, Join, Trunk}
use Rattle.mq_model.specs.declared.said.SaidRoute.TheVariants.{Modulo, Turn, Cut}
use Rattle.mq_model.specs.declared.said.Said.{Said}
use Rattle.mq_model.specs.declared.said.Said.TheVariants as said
use Rattle.mq_model.proofs.Demands.{demand_columns, demand_in_range, demand_names, number_below}
use Rattle.mq_model.proofs.Branches.{branches_columns, branches_in_range, branches_names}
use Rattle.mq_model.proofs.Stages.{stages_columns, stages_in_range, stages_names}
use Rattle.mq_model.proofs.SoundColumns.{are_distinct_after, list_all_after, mentions_in_order, same_name}
use Rattle.mq_model.proofs.SoundInputs.{AreInputs, given_among, given_output, numbers_distinct, told_are_inputs}
use Rattle.mq_model.proofs.SoundLines.{IsSoundKind, is_sound_reads}
use Rattle.mq_model.proofs.SoundText.{AreFew, AreSound, lines_of_version, told_are_few, told_are_sound}
use Rattle.mq_model.proofs.Versions.{is_of, nodes_of_version}

-- What the nodes have of the lines.
abbrev node_name : Node → Word
node_name node = node.name

names_are : (names columns : List Word) (saids : List Said) → map (λ (node : Node). node.name) (flat_map (nodes_in names columns) saids) ≡ names_of saids
names_are names columns [] = refl
names_are names columns (said.Bound n ∷ saids) = names_are names columns saids
names_are names columns (said.Node name kind reads ∷ saids) = ap (λ more. name ∷ more) (names_are names columns saids)

inputs_are : (names columns : List Word) (saids : List Said) → flat_map (λ (node : Node). node.inputs) (flat_map (nodes_in names columns) saids) ≡ map (input_in names) (flat_map reads_of saids)
inputs_are names columns [] = refl
inputs_are names columns (said.Bound n ∷ saids) = inputs_are names columns saids
inputs_are names columns (said.Node name kind reads ∷ saids) =
    ap (λ more. map (input_in names) reads ++ more) (inputs_are names columns saids) ∙ sym (map-append (input_in names) reads (flat_map reads_of saids))

columns_are : (columns : List Word) (kind : SaidKind) → columns_of_kind (kind_in columns kind) ≡ map (number_in columns) (mentions_of_kind kind)
columns_are columns Source = refl
columns_are columns (Server d) = demand_columns columns d
columns_are columns (Delay d) = demand_columns columns d
columns_are columns (Loss places d) = demand_columns columns d
columns_are columns (Tandem stages) = stages_columns columns stages
columns_are columns (ForkJoin branches) = branches_columns columns branches
columns_are columns (Split (Modulo outputs column)) = refl
columns_are columns (Split (Turn outputs)) = refl
columns_are columns (Split (Cut column thresholds)) = refl
columns_are columns (Fork outputs) = refl
columns_are columns Join = refl
columns_are columns (Trunk servers d) = demand_columns columns d

mentions_are : (names columns : List Word) (saids : List Said) → flat_map (λ (node : Node). columns_of_kind node.kind) (flat_map (nodes_in names columns) saids) ≡ map (number_in columns) (flat_map mentioned saids)
mentions_are names columns [] = refl
mentions_are names columns (said.Bound n ∷ saids) = mentions_are names columns saids
mentions_are names columns (said.Node name kind reads ∷ saids) =
    ap (λ front. front ++ flat_map (λ (node : Node). columns_of_kind node.kind) (flat_map (nodes_in names columns) saids)) (columns_are columns kind)
    ∙ ap (λ more. map (number_in columns) (mentions_of_kind kind) ++ more) (mentions_are names columns saids)
    ∙ sym (map-append (number_in columns) (mentions_of_kind kind) (flat_map mentioned saids))

source_is : (columns : List Word) (kind : SaidKind) → is_source_kind (kind_in columns kind) ≡ is_source_said kind
source_is columns Source = refl
source_is columns (Server d) = refl
source_is columns (Delay d) = refl
source_is columns (Loss places d) = refl
source_is columns (Tandem stages) = refl
source_is columns (ForkJoin branches) = refl
source_is columns (Split route) = refl
source_is columns (Fork outputs) = refl
source_is columns Join = refl
source_is columns (Trunk servers d) = refl

sources_are : (names columns : List Word) (saids : List Said) → list_any is_source saids ≡ true → list_any (λ (node : Node). is_source_kind node.kind) (flat_map (nodes_in names columns) saids) ≡ true
sources_are names columns [] h = absurd (cc)
sources_are names columns (said.Bound n ∷ saids) h = sources_are names columns saids h
sources_are names columns (said.Node name kind reads ∷ saids) h =
    elim (or_cases (is_source_said kind) (list_any is_source saids) h) [
      | inl here ↦ or_left _ _ (source_is columns kind ∙ here)
      | inr later ↦ or_right _ _ (sources_are names columns saids later)
    ]

some_node : {X : Type 0} (p : X → Bool) (xs : List X) → list_any p xs ≡ true → 1 ≤ length xs
some_node p [] h = absurd (cc)
some_node p (x ∷ xs) h = omega arith

bound_small : (saids : List Said) → AreSound saids → nat_le (bound_of saids) (2 ^ 60) ≡ true
bound_small [] sound = refl
bound_small (said.Bound n ∷ saids) sound = sound.0
bound_small (said.Node name kind reads ∷ saids) sound = bound_small saids sound.1

-- Columns: the mentioned names are names, and among the columns.
kind_names : (kind : SaidKind) → IsSoundKind kind → list_all is_name (mentions_of_kind kind) ≡ true
kind_names Source sound = refl
kind_names (Server d) sound = demand_names d sound
kind_names (Delay d) sound = demand_names d sound
kind_names (Loss places d) sound = demand_names d sound.1
kind_names (Tandem stages) sound = stages_names stages sound
kind_names (ForkJoin branches) sound = branches_names branches sound
kind_names (Split (Modulo outputs column)) sound = and_from _ _ sound.1 refl
kind_names (Split (Turn outputs)) sound = refl
kind_names (Split (Cut column thresholds)) sound = and_from _ _ sound.0 refl
kind_names (Fork outputs) sound = refl
kind_names Join sound = refl
kind_names (Trunk servers d) sound = demand_names d sound.1

mentioned_names : (saids : List Said) → AreSound saids → list_all is_name (flat_map mentioned saids) ≡ true
mentioned_names [] sound = refl
mentioned_names (said.Bound n ∷ saids) sound = mentioned_names saids sound.1
mentioned_names (said.Node name kind reads ∷ saids) sound =
    list_all-append is_name (mentions_of_kind kind) (flat_map mentioned saids) ∙ and_from _ _ (kind_names kind sound.0.1) (mentioned_names saids sound.1)

all_among : (before names all : List Word) → all ≡ before ++ distinct_after before names → list_all (is_among all) names ≡ true
unfolding distinct_after
all_among before [] all is = refl
all_among before (name ∷ more) all is =
    elim (cases_Bool (is_among before name)) [
      | inl known ↦
          let is_so : all ≡ before ++ distinct_after before more = rw known at is in
          let here : is_among all name ≡ true = rw is_so (list_any-append (λ other. bytes_eq other name) before (distinct_after before more) ∙ or_left _ _ known) in
          and_from _ _ here (all_among before more all is_so)
      | inr new ↦
          let is_so : all ≡ before ++ name ∷ distinct_after (before ++ name ∷ []) more = rw new at is in
          let here : is_among all name ≡ true =
          rw is_so (list_any-append (λ other. bytes_eq other name) before (name ∷ distinct_after (before ++ name ∷ []) more) ∙ or_right _ _ (or_left _ _ (same_name name))) in
          and_from _ _ here (all_among (before ++ name ∷ []) more all (is_so ∙ sym (append_assoc before (name ∷ []) _)))
    ]

-- Nodes are in their ranges.
kind_sound : (columns : List Word) (kind : SaidKind) → IsSoundKind kind → list_all (is_among columns) (mentions_of_kind kind) ≡ true → is_sound_kind (length columns) (kind_in columns kind) ≡ true
kind_sound columns Source sound among = refl
kind_sound columns (Server d) sound among = demand_in_range columns d sound among
kind_sound columns (Delay d) sound among = demand_in_range columns d sound among
kind_sound columns (Loss places d) sound among = and_from _ _ sound.0 (demand_in_range columns d sound.1 among)
kind_sound columns (Tandem stages) sound among = stages_in_range columns stages sound among
kind_sound columns (ForkJoin branches) sound among = branches_in_range columns branches sound among
kind_sound columns (Split (Modulo outputs column)) sound among = and_from _ _ sound.0 (number_below columns column (and_parts _ _ among).0)
kind_sound columns (Split (Turn outputs)) sound among = sound
kind_sound columns (Split (Cut column thresholds)) sound among =
    and_from _ _ (and_from _ _ (and_from _ _ (number_below columns column (and_parts _ _ among).0) sound.1.0) sound.1.1) sound.1.2
kind_sound columns (Fork outputs) sound among = sound
kind_sound columns Join sound among = refl
kind_sound columns (Trunk servers d) sound among = and_from _ _ sound.0 (demand_in_range columns d sound.1 among)

count_sound : (columns : List Word) (kind : SaidKind) (reads : ℕ) → is_sound_reads kind reads ≡ true → is_sound_count (kind_in columns kind) reads ≡ true
count_sound columns Source reads h = h
count_sound columns (Server d) reads h = h
count_sound columns (Delay d) reads h = h
count_sound columns (Loss places d) reads h = h
count_sound columns (Tandem stages) reads h = h
count_sound columns (ForkJoin branches) reads h = h
count_sound columns (Split route) reads h = h
count_sound columns (Fork outputs) reads h = h
count_sound columns Join reads h = h
count_sound columns (Trunk servers d) reads h = h

outputs_sound : (names : List Word) (nodes : List Node) (inputs : List SaidInput) → list_all (λ (i : SaidInput). is_output (slice_get nodes (number_in names i.name)) i.out) inputs ≡ true
    → list_all (λ (i : Input). is_output (slice_get nodes i.node) i.out) (map (input_in names) inputs) ≡ true
outputs_sound names nodes [] h = refl
outputs_sound names nodes (input ∷ inputs) h = let both = and_parts _ _ h in and_from _ _ both.0 (outputs_sound names nodes inputs both.1)

nodes_sound : (names columns : List Word) (nodes : List Node) (saids : List Said) → AreSound saids → list_all (is_among columns) (flat_map mentioned saids) ≡ true
    → list_all (λ (i : SaidInput). is_output (slice_get nodes (number_in names i.name)) i.out) (flat_map reads_of saids) ≡ true
    → list_all (is_sound_node (length columns) nodes) (flat_map (nodes_in names columns) saids) ≡ true
nodes_sound names columns nodes [] sound among outputs = refl
nodes_sound names columns nodes (said.Bound n ∷ saids) sound among outputs = nodes_sound names columns nodes saids sound.1 among outputs
nodes_sound names columns nodes (said.Node name kind reads ∷ saids) sound among outputs =
    let mentions = and_parts _ _ (sym (list_all-append (is_among columns) (mentions_of_kind kind) (flat_map mentioned saids)) ∙ among) in
    let given = and_parts _ _ (sym (list_all-append (λ (i : SaidInput). is_output (slice_get nodes (number_in names i.name)) i.out) reads (flat_map reads_of saids)) ∙ outputs) in
    let count : is_sound_count (kind_in columns kind) (length (map (input_in names) reads)) ≡ true = rw (length-map reads (input_in names)) (count_sound columns kind (length reads) sound.0.2) in
    and_from _ _
    (and_from _ _ (and_from _ _ (and_from _ _ (kind_sound columns kind sound.0.1 mentions.0) count) (outputs_sound names nodes reads given.0)) sound.0.0)
    (nodes_sound names columns nodes saids sound.1 mentions.1 given.1)

-- Inputs: given ones name outputs, and are among the names.
all_outputs : (names columns : List Word) (saids : List Said) (inputs : List SaidInput) → are_distinct bytes_eq (names_of saids) ≡ true → list_all (λ (i : SaidInput). list_any (gives i) saids) inputs ≡ true
    → list_all (λ (i : SaidInput). is_output (slice_get (flat_map (nodes_in names columns) saids) (number_in (names_of saids) i.name)) i.out) inputs ≡ true
all_outputs names columns saids [] distinct h = refl
all_outputs names columns saids (input ∷ inputs) distinct h =
    let both = and_parts _ _ h in
    and_from _ _ (given_output names columns input saids distinct both.0) (all_outputs names columns saids inputs distinct both.1)

all_named : (saids : List Said) (inputs : List SaidInput) → list_all (λ (i : SaidInput). list_any (gives i) saids) inputs ≡ true → list_all (λ (i : SaidInput). is_among (names_of saids) i.name) inputs ≡ true
all_named saids [] h = refl
all_named saids (input ∷ inputs) h = let both = and_parts _ _ h in and_from _ _ (given_among input saids both.0) (all_named saids inputs both.1)

-- The parts that a text without a fault has.
record IsSoundText (version : ℕ) (saids : List Said) : Type 0 where
  within : is_within 1 2 version ≡ true
  all_of : AreAll (λ said. is_of version said ≡ true) saids
  sound : AreSound saids
  few : AreFew saids
  inputs : AreInputs saids [] (flat_map reads_of saids)
  source : list_any is_source saids ≡ true

sound_parts : (ls : List (List ℕ)) → lines_fault [] ls ≡ None → inputs_fault (saids_of ls) [] (reads_of_text ls) ≡ None → list_any is_source (saids_of ls) ≡ true → IsSoundText (version_in ls) (saids_of ls)
sound_parts ls lines inputs source = record { within = version_within ls; all_of = lines_of_version [] ls lines; sound = told_are_sound ls lines; few = told_are_few ls lines; inputs = told_are_inputs ls inputs; source = source }

network_sound : (version : ℕ) (saids : List Said) → IsSoundText version saids → is_sound (network_of version saids) ≡ true
network_sound version saids text =
    let names : List Word = names_of saids in
    let columns : List Word = columns_of saids in
    let reads : List SaidInput = flat_map reads_of saids in
    let named = names_are names columns saids in
    let size : length (nodes_of saids) ≡ length names = sym (length-map (nodes_of saids) node_name) ∙ ap length named in
    let few : length names ≤ 64 = text.few.names in
    let source = sources_are names columns saids text.source in
    let some : 1 ≤ length (nodes_of saids) = some_node (λ (node : Node). is_source_kind node.kind) (nodes_of saids) source in
    let within : is_within 1 64 (length (nodes_of saids)) ≡ true = and_from _ _ (le-leb _ _ some) (le-leb _ _ (omega arith)) in
    let kinds = nodes_of_version names columns version saids (and_parts _ _ text.within).0 text.all_of in
    let few_columns = le-leb _ _ text.few.columns in
    let bound = bound_small saids text.sound in
    let distinct : are_distinct bytes_eq (map (λ (node : Node). node.name) (nodes_of saids)) ≡ true = rw named text.few.distinct in
    let column_names = list_all_after is_name [] (flat_map mentioned saids) (mentioned_names saids text.sound) in
    let columns_distinct = are_distinct_after [] (flat_map mentioned saids) refl in
    let among = all_among [] (flat_map mentioned saids) columns refl in
    let nodes = nodes_sound names columns (nodes_of saids) saids text.sound among (all_outputs names columns saids reads text.few.distinct text.inputs.given) in
    let once : are_distinct same_input (flat_map (λ (node : Node). node.inputs) (nodes_of saids)) ≡ true =
    rw (inputs_are names columns saids) (numbers_distinct names reads (all_named saids reads text.inputs.given) (text.inputs.distinct refl)) in
    let mentions : mentions_from 0 (length columns) (flat_map (λ (node : Node). columns_of_kind node.kind) (nodes_of saids)) ≡ true =
    rw (mentions_are names columns saids) (mentions_in_order [] (flat_map mentioned saids) columns refl) in
    and_from _ _ (and_from _ _ (and_from _ _ (and_from _ _ (and_from _ _ (and_from _ _ (and_from _ _ (and_from _ _ (and_from _ _ (and_from _ _ (and_from _ _ text.within kinds) within) few_columns) bound) source) distinct) column_names) columns_distinct) nodes) once) mentions

-- the same before the nodes are ranked
pub unranked_is_sound : (ls : List (List ℕ)) → lines_fault [] ls ≡ None → inputs_fault (saids_of ls) [] (reads_of_text ls) ≡ None → list_any is_source (saids_of ls) ≡ true → IsTrue (is_sound (network_of (version_in ls) (saids_of ls)))
unranked_is_sound ls lines inputs source = network_sound (version_in ls) (saids_of ls) (sound_parts ls lines inputs source)

pub unranked_is_small : (ls : List (List ℕ)) → lines_fault [] ls ≡ None → inputs_fault (saids_of ls) [] (reads_of_text ls) ≡ None → list_any is_source (saids_of ls) ≡ true → length (nodes_of (saids_of ls)) ≤ 64
unranked_is_small ls lines inputs source =
    let named = names_are (names_of (saids_of ls)) (columns_of (saids_of ls)) (saids_of ls) in
    let size : length (nodes_of (saids_of ls)) ≡ length (names_of (saids_of ls)) = sym (length-map (nodes_of (saids_of ls)) node_name) ∙ ap length named in
    rw size ((told_are_few ls lines).names)
