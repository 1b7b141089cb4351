-- Cycles among the inputs of nodes, and that the ranking leaves a node out exactly if there is one.
use Rattle.std.specs.Prelude.{◌≡◌, ℕ, List, [], ◌∷◌, Some, slice_get, ◌↔◌, IsSome}
use Rattle.mq_core.specs.declared.model.Node.{Node}
use Rattle.mq_core.specs.Wiring.{inputs_of}
use Rattle.mq_graph.specs.Rank.{AreWired, left_node}

-- a port of node v reads an output of node u
abbrev pub Reads : List Node → ℕ → ℕ → Type 0
Reads nodes v u = (port : ℕ) × (out : ℕ) × (slice_get (inputs_of nodes v) port ≡ Some (u, out))

-- node v reads the first of these nodes, each of them reads the next, and the last reads node u; with no such nodes, v reads u
abbrev pub ReadThrough : List Node → ℕ → List ℕ → ℕ → Type 0
ReadThrough nodes v [] u = Reads nodes v u
ReadThrough nodes v (next ∷ others) u = Reads nodes v next × ReadThrough nodes next others u

-- some nodes, at least one, each of which reads the next, while the last reads the first
abbrev pub HasCycle : List Node → Type 0
HasCycle nodes = (first : ℕ) × (others : List ℕ) × ReadThrough nodes first others first

-- the ranking leaves a node out exactly if the inputs contain a cycle
abbrev pub CyclesAreLeft : Type 0
CyclesAreLeft = (nodes : List Node) → AreWired nodes → IsSome (left_node nodes) ↔ HasCycle nodes
