-- What nodes had before an edit, and how they are restored to it.
use Rattle.std.specs.Prelude.{◌≡◌, ℕ, List, [], Some, length, slice_get, slice_set}
use Rattle.mq_kept.specs.Tails.{IsTailOf, tail_before}
use Rattle.mq_kept.specs.declared.checkpoints.Checkpoints.TheVariants.{Nothing}
use Rattle.mq_kept.specs.declared.checkpoints.Checkpoints.{Checkpoints}
use Rattle.mq_kept.specs.declared.former.Former.{Former}
use Rattle.mq_kept.specs.declared.former.Former.TheVariants.{Same, Tail, Whole}
use Rattle.mq_kept.specs.declared.former.NodeLists.{NodeLists}
use Rattle.mq_kept.specs.declared.former.Nodes.{Nodes}

-- the lists of a node of which nothing is kept
abbrev pub no_lists : NodeLists
no_lists = record { visits = record { job = []; arrive = []; found = []; fate = [] }; streams = []; checkpoints = Nothing }

-- there are this many nodes
abbrev pub AreNodes : ℕ → Nodes → Type 0
AreNodes count nodes = (length nodes.visits.items ≡ count) × (length nodes.outputs.items ≡ count) × (length nodes.checkpoints.items ≡ count)

-- a node has these lists
abbrev pub HasLists : Nodes → ℕ → NodeLists → Type 0
HasLists nodes v lists =
    (slice_get nodes.visits.items v ≡ Some lists.visits) × (slice_get nodes.outputs.items v ≡ Some lists.streams) × (slice_get nodes.checkpoints.items v ≡ Some lists.checkpoints)

-- nothing is kept of any node
abbrev pub AreNothing : Nodes → Type 0
AreNothing nodes = (v : ℕ) (lists : NodeLists) → HasLists nodes v lists → lists ≡ no_lists

-- these lists are put at a node
abbrev pub IsPut : Nodes → ℕ → NodeLists → Nodes → Type 0
IsPut nodes v lists nodes' =
    (nodes'.visits.items ≡ slice_set nodes.visits.items v lists.visits) × (nodes'.outputs.items ≡ slice_set nodes.outputs.items v lists.streams)
    × (nodes'.checkpoints.items ≡ slice_set nodes.checkpoints.items v lists.checkpoints)

-- two sets of nodes have the same lists
abbrev pub AreSameNodes : Nodes → Nodes → Type 0
AreSameNodes nodes nodes' =
    (nodes'.visits.items ≡ nodes.visits.items) × (nodes'.outputs.items ≡ nodes.outputs.items) × (nodes'.checkpoints.items ≡ nodes.checkpoints.items)

-- lists with other checkpoints
abbrev pub with_checkpoints : Checkpoints → NodeLists → NodeLists
with_checkpoints points lists = record lists { checkpoints = points }

-- what a node had before, given how it is restored and what it has now
abbrev pub lists_before : Former → NodeLists → NodeLists
lists_before Same now = now
lists_before (Whole lists) now = lists
lists_before (Tail tail points) now = with_checkpoints points (tail_before tail now)

-- these lists can be restored this way: former last visits have room in them
abbrev pub FitsIn : Former → NodeLists → Type 0
FitsIn Same now = Unit {0}
FitsIn (Whole lists) now = Unit {0}
FitsIn (Tail tail points) now = IsTailOf tail now

-- the lists of each node can be restored
abbrev pub AllFit : Nodes → List Former → Type 0
AllFit nodes formers = (v : ℕ) (now : NodeLists) (former : Former) → HasLists nodes v now → slice_get formers v ≡ Some former → FitsIn former now

-- the nodes are restored to what they had before
pub record CanComeBack (before nodes : Nodes) (formers : List Former) : Type 0 where
  pub count : AreNodes (length formers) before
  pub each : (v : ℕ) (was now : NodeLists) (former : Former) → HasLists before v was → HasLists nodes v now → slice_get formers v ≡ Some former → lists_before former now ≡ was
