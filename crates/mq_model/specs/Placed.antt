-- What lines say, together with the numbers of the lines.
use Rattle.std.specs.Prelude.{◌≡◌, ◌≤◌, ◌∷◌, ◌++◌, [], ℕ, List, length, map, Option, Some, get_or, option_map}
use Rattle.std.specs.List.{enumerate_from}
use Rattle.std.specs.Option.{MatchOption}
use Rattle.mq_core.specs.declared.model.Node.{Node}
use Rattle.mq_graph.specs.Rank.{left_node}
use Rattle.mq_model.specs.Model.{PlacedInput, inputs_fault}
use Rattle.mq_model.specs.Said.{declared, reads_of}
use Rattle.mq_model.specs.declared.fault.ModelFault.{ModelFault}
use Rattle.mq_model.specs.declared.fault.ModelFault.TheVariants.{Cycle}
use Rattle.mq_model.specs.declared.said.SaidInput.{SaidInput}
use Rattle.mq_model.specs.declared.said.Said.{Said}

-- the inputs of line n, its ports counted from this one
abbrev pub placed_from : ℕ → ℕ → List SaidInput → List PlacedInput
placed_from n port reads = map (λ (port, input). (n, port, input)) (enumerate_from port reads)

-- the inputs of these lines
abbrev pub placed_inputs : List ℕ → List Said → List PlacedInput
placed_inputs [] saids = []
placed_inputs (n ∷ ns) [] = []
placed_inputs (n ∷ ns) (said ∷ saids) = placed_from n 0 (reads_of said) ++ placed_inputs ns saids

-- the numbers of the lines that declare nodes
abbrev pub declaring : List ℕ → List Said → List ℕ
declaring [] saids = []
declaring (n ∷ ns) [] = []
declaring (n ∷ ns) (said ∷ saids) = map (λ name. n) (declared said) ++ declaring ns saids

-- each of these lines has at most 8 inputs
abbrev pub AreNarrow : List Said → Type 0
AreNarrow [] = Unit {0}
AreNarrow (said ∷ saids) = (length (reads_of said) ≤ 8) × AreNarrow saids

-- the first error in the inputs of a line after these inputs, or none
abbrev pub FaultOfReads : Option ModelFault → List Said → List SaidInput → ℕ → ℕ → List SaidInput → Type 0
FaultOfReads result saids taken n port reads =
    (more : List PlacedInput)
    → MatchOption result (inputs_fault saids taken (placed_from n port reads ++ more) ≡ inputs_fault saids (taken ++ reads) more) (λ e. inputs_fault saids taken (placed_from n port reads ++ more) ≡ Some e)

-- the first node that the ranking leaves out, with the line that declares it
abbrev pub cycle_of : List ℕ → List Said → List Node → Option ModelFault
cycle_of lines saids nodes = option_map (λ node. Cycle (get_or (declaring lines saids) node 0) node) (left_node nodes)
