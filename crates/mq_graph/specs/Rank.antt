-- What the ranking of some nodes returns: the nodes by rank, or the first declared node that is left out.
use Rattle.std.specs.Prelude.{◌≡◌, ℕ, ◌<◌, not, List, length, Option, Some, None, Result, Ok, Err, IsTrue}
use Rattle.std.specs.List.{All, find, range_with_len}
use Rattle.mq_core.specs.declared.model.Input.{Input}
use Rattle.mq_core.specs.declared.model.Node.{Node}
use Rattle.mq_core.specs.Wiring.{has, ranking}
use Rattle.mq_graph.specs.declared.order.RankFault.{RankFault}
use Rattle.mq_graph.specs.declared.order.RankFault.TheVariants.{Cycle, Memory}

-- each input names a node
abbrev pub AreWired : List Node → Type 0
AreWired nodes = All (λ (node : Node). All (λ (i : Input). i.node < length nodes) node.inputs) nodes

-- the first of this many nodes that isn't in an order
abbrev pub first_outside : List ℕ → ℕ → Option ℕ
first_outside order count = find (λ n. not (has order n)) (range_with_len 0 count)

-- the first declared node that the ranking leaves out
abbrev pub left_node : List Node → Option ℕ
left_node nodes = first_outside (ranking nodes) (length nodes)

-- an order contains each of these nodes
abbrev pub HasAll : List ℕ → List Node → Type 0
HasAll order nodes = (n : ℕ) → n < length nodes → IsTrue (has order n)

-- the nodes by rank if none is left out, or the first one that is
abbrev pub Answers : List Node → Result (List ℕ) RankFault → Type 0
Answers nodes (Ok order) = (order ≡ ranking nodes) × HasAll order nodes × (left_node nodes ≡ None)
Answers nodes (Err (Cycle node)) = left_node nodes ≡ Some node
Answers nodes (Err Memory) = Unit {0}
