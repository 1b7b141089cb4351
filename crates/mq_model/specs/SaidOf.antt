-- What the lines of a network say: numbers become names.
use Rattle.std.specs.Prelude.{◌∷◌, [], ℕ, List, map, get_or}
use Rattle.mq_core.specs.declared.model.Demand.{Demand}
use Rattle.mq_core.specs.declared.model.Demand.TheVariants as demand
use Rattle.mq_core.specs.declared.model.Input.{Input}
use Rattle.mq_core.specs.declared.model.Route.{Route}
use Rattle.mq_core.specs.declared.model.Route.TheVariants as route
use Rattle.mq_core.specs.declared.model.Stage.{Stage}
use Rattle.mq_core.specs.declared.model.Kind.{Kind}
use Rattle.mq_core.specs.declared.model.Kind.TheVariants as kind
use Rattle.mq_core.specs.declared.model.Node.{Node}
use Rattle.mq_core.specs.declared.model.Network.{Network}
use Rattle.mq_model.specs.Form.{Word}
use Rattle.mq_model.specs.declared.said.SaidDemand.{SaidDemand}
use Rattle.mq_model.specs.declared.said.SaidDemand.TheVariants.{Column, Fixed}
use Rattle.mq_model.specs.declared.said.SaidInput.{SaidInput}
use Rattle.mq_model.specs.declared.said.SaidRoute.{SaidRoute}
use Rattle.mq_model.specs.declared.said.SaidRoute.TheVariants.{Modulo, Turn, Cut}
use Rattle.mq_model.specs.declared.said.SaidStage.{SaidStage}
use Rattle.mq_model.specs.declared.said.SaidKind.{SaidKind}
use Rattle.mq_model.specs.declared.said.SaidKind.TheVariants.{Source, Server, Delay, Loss, Tandem, ForkJoin, Split, Fork, Join, Trunk}
use Rattle.mq_model.specs.declared.said.Said.{Said}
use Rattle.mq_model.specs.declared.said.Said.TheVariants as said

-- the name with this number; empty if there is none
abbrev pub name_at : List Word → ℕ → Word
name_at names n = get_or names n []

abbrev pub demand_by : List Word → Demand → SaidDemand
demand_by columns (demand.Column column) = Column (name_at columns column)
demand_by columns (demand.Fixed n) = Fixed n

abbrev pub route_by : List Word → Route → SaidRoute
route_by columns (route.Modulo outputs column) = Modulo outputs (name_at columns column)
route_by columns (route.Turn outputs) = Turn outputs
route_by columns (route.Cut column thresholds) = Cut (name_at columns column) thresholds

abbrev pub stage_by : List Word → Stage → SaidStage
stage_by columns stage = record { places = stage.places; demand = demand_by columns stage.demand }

abbrev pub kind_by : List Word → Kind → SaidKind
kind_by columns kind.Source = Source
kind_by columns (kind.Server d) = Server (demand_by columns d)
kind_by columns (kind.Delay d) = Delay (demand_by columns d)
kind_by columns (kind.Loss places d) = Loss places (demand_by columns d)
kind_by columns (kind.Tandem stages) = Tandem (map (stage_by columns) stages)
kind_by columns (kind.ForkJoin branches) = ForkJoin (map (map (demand_by columns)) branches)
kind_by columns (kind.Split r) = Split (route_by columns r)
kind_by columns (kind.Fork outputs) = Fork outputs
kind_by columns kind.Join = Join
kind_by columns (kind.Trunk servers d) = Trunk servers (demand_by columns d)

abbrev pub input_by : List Word → Input → SaidInput
input_by names input = record { name = name_at names input.node; out = input.out }

-- the line of a node
abbrev pub node_by : List Word → List Word → Node → Said
node_by names columns node = said.Node node.name (kind_by columns node.kind) (map (input_by names) node.inputs)

-- the names of the nodes
abbrev pub names_in : Network → List Word
names_in net = map (λ (node : Node). node.name) net.nodes

-- the bound, and a line for each node
abbrev pub saids_in : Network → List Said
saids_in net = said.Bound net.bound ∷ map (node_by (names_in net) net.columns) net.nodes
