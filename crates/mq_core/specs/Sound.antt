-- What makes a network sound: numbers in their ranges, names, inputs and outputs.
use Rattle.std.specs.List.{flat_map, list_all, list_any}
use Rattle.std.specs.Prelude.{Bool, List, None, Option, Some, [], false, length, map, nat_le, nat_lt, not, slice_get, suc, true, ℕ, ◌&&◌, ◌==◌, ◌^◌, ◌||◌, ◌∷◌}
use Rattle.std.specs.Str.{bytes_eq}
use Rattle.mq_core.specs.KindTable.{behaviour_of}
use Rattle.mq_core.specs.Names.{is_name}
use Rattle.mq_core.specs.Wiring.{is_source_kind}
use Rattle.mq_core.specs.declared.model.Input.{Input}
use Rattle.mq_core.specs.declared.model.Kind.{Kind}
use Rattle.mq_core.specs.declared.model.Network.{Network}
use Rattle.mq_core.specs.declared.model.Node.{Node}
use Rattle.mq_core.specs.Ranges.{is_within}

-- the numbers of a kind are in their ranges
abbrev pub is_sound_kind : ℕ → Kind → Bool
is_sound_kind columns kind = (behaviour_of kind).sound columns

-- the version of the model language from which a kind may be used
abbrev pub version_of : Kind → ℕ
version_of kind = (behaviour_of kind).version

-- the number of outputs of a kind
abbrev pub outputs_in : Kind → ℕ
outputs_in kind = (behaviour_of kind).outputs

-- there is such a node, and it has this output
abbrev pub is_output : Option Node → ℕ → Bool
is_output None out = false
is_output (Some node) out = nat_lt out (outputs_in node.kind)

-- the number of ports fits the kind: none at a source, 2 to 8 at a join, 1 to 8 at each other node
abbrev pub is_sound_count : Kind → ℕ → Bool
is_sound_count kind inputs = (behaviour_of kind).ports inputs

-- a kind in its ranges, a number of ports that fits it, inputs that are outputs of the network, and a name
abbrev pub is_sound_node : ℕ → List Node → Node → Bool
is_sound_node columns nodes node =
    is_sound_kind columns node.kind && is_sound_count node.kind (length node.inputs)
    && list_all (λ (i : Input). is_output (slice_get nodes i.node) i.out) node.inputs
    && is_name node.name

-- the items are distinct
abbrev pub are_distinct : {X : Type 0} → (X → X → Bool) → List X → Bool
are_distinct same [] = true
are_distinct same (x ∷ xs) = not (list_any (same x) xs) && are_distinct same xs

-- two inputs read the same output
abbrev pub same_input : Input → Input → Bool
same_input i j = (i.node == j.node) && (i.out == j.out)

-- the columns that a kind mentions
abbrev pub columns_of_kind : Kind → List ℕ
columns_of_kind kind = (behaviour_of kind).mentioned

-- each column is first mentioned after all columns before it; the columns below `next` are mentioned already, and all below
-- `columns` are in the end
abbrev pub mentions_from : ℕ → ℕ → List ℕ → Bool
mentions_from next columns [] = next == columns
mentions_from next columns (column ∷ more) =
    ((column == next) && mentions_from (suc next) columns more) || (nat_lt column next && mentions_from next columns more)

-- a network in its limits: version 1 or 2, kinds of that version, 1 to 64 nodes, at most 16 columns, a bound of at most 2^60, a
-- source, distinct names of nodes, valid and distinct names of columns, sound nodes, no output that is read twice, and columns
-- that are all mentioned, in order of first mention
abbrev pub is_sound : Network → Bool
is_sound net =
    is_within 1 2 net.version && list_all (λ (node : Node). nat_le (version_of node.kind) net.version) net.nodes
    && is_within 1 64 (length net.nodes) && nat_le (length net.columns) 16 && nat_le net.bound (2 ^ 60)
    && list_any (λ (node : Node). is_source_kind node.kind) net.nodes
    && are_distinct bytes_eq (map (λ (node : Node). node.name) net.nodes)
    && list_all is_name net.columns && are_distinct bytes_eq net.columns
    && list_all (is_sound_node (length net.columns) net.nodes) net.nodes
    && are_distinct same_input (flat_map (λ (node : Node). node.inputs) net.nodes)
    && mentions_from 0 (length net.columns) (flat_map (λ (node : Node). columns_of_kind node.kind) net.nodes)
