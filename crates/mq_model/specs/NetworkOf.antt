-- The network that a text declares: names become numbers.
use Rattle.std.specs.Prelude.{◌^◌, ◌∷◌, [], ℕ, List, map, drop, take, if◌then◌else◌, Option, Some, None, Ok, Err}
use Rattle.std.specs.List.{flat_map, filter_map, position_or_len}
use Rattle.std.specs.Str.{bytes_eq}
use Rattle.mq_base.specs.Text.{lines_of, words_of}
use Rattle.mq_core.specs.declared.model.Demand.{Demand}
use Rattle.mq_core.specs.declared.model.Demand.TheVariants as demand
use Rattle.mq_core.specs.declared.model.Input.{Input}
use Rattle.mq_core.specs.declared.model.Route.{Route}
use Rattle.mq_core.specs.declared.model.Route.TheVariants as route
use Rattle.mq_core.specs.declared.model.Stage.{Stage}
use Rattle.mq_core.specs.declared.model.Kind.{Kind}
use Rattle.mq_core.specs.declared.model.Kind.TheVariants as kind
use Rattle.mq_core.specs.declared.model.Node.{Node}
use Rattle.mq_core.specs.declared.model.Network.{Network}
use Rattle.mq_model.specs.Form.{Word, read, whole}
use Rattle.mq_model.specs.Head.{version_in}
use Rattle.mq_model.specs.Lines.{line}
use Rattle.mq_model.specs.Said.{columns_of, names_of}
use Rattle.mq_model.specs.declared.said.SaidDemand.{SaidDemand}
use Rattle.mq_model.specs.declared.said.SaidDemand.TheVariants.{Column, Fixed}
use Rattle.mq_model.specs.declared.said.SaidInput.{SaidInput}
use Rattle.mq_model.specs.declared.said.SaidRoute.{SaidRoute}
use Rattle.mq_model.specs.declared.said.SaidRoute.TheVariants.{Modulo, Turn, Cut}
use Rattle.mq_model.specs.declared.said.SaidStage.{SaidStage}
use Rattle.mq_model.specs.declared.said.SaidKind.{SaidKind}
use Rattle.mq_model.specs.declared.said.SaidKind.TheVariants.{Source, Server, Delay, Loss, Tandem, ForkJoin, Split, Fork, Join, Trunk}
use Rattle.mq_model.specs.declared.said.Said.{Said}
use Rattle.mq_model.specs.declared.said.Said.TheVariants as said

-- what a line says, if it is in the grammar
abbrev pub said_of : List ℕ → Option Said
said_of l = elim (whole (read line (words_of l))) [ Ok said ↦ Some said | Err left ↦ None ]

abbrev pub saids_of : List (List ℕ) → List Said
saids_of lines = filter_map said_of lines

-- a text without the byte order mark at its start, if it has one
abbrev pub without_mark : List ℕ → List ℕ
without_mark text = if bytes_eq (take 3 text) (0xEF ∷ 0xBB ∷ 0xBF ∷ []) then drop 3 text else text

-- the number of a name: its index among the names
abbrev pub number_in : List Word → Word → ℕ
number_in names name = position_or_len (λ other. bytes_eq other name) names

abbrev pub demand_in : List Word → SaidDemand → Demand
demand_in columns (Column name) = demand.Column (number_in columns name)
demand_in columns (Fixed n) = demand.Fixed n

abbrev pub route_in : List Word → SaidRoute → Route
route_in columns (Modulo outputs column) = route.Modulo outputs (number_in columns column)
route_in columns (Turn outputs) = route.Turn outputs
route_in columns (Cut column thresholds) = route.Cut (number_in columns column) thresholds

abbrev pub stage_in : List Word → SaidStage → Stage
stage_in columns stage = record { places = stage.places; demand = demand_in columns stage.demand }

abbrev pub kind_in : List Word → SaidKind → Kind
kind_in columns Source = kind.Source
kind_in columns (Server d) = kind.Server (demand_in columns d)
kind_in columns (Delay d) = kind.Delay (demand_in columns d)
kind_in columns (Loss places d) = kind.Loss places (demand_in columns d)
kind_in columns (Tandem stages) = kind.Tandem (map (stage_in columns) stages)
kind_in columns (ForkJoin branches) = kind.ForkJoin (map (map (demand_in columns)) branches)
kind_in columns (Split route) = kind.Split (route_in columns route)
kind_in columns (Fork outputs) = kind.Fork outputs
kind_in columns Join = kind.Join
kind_in columns (Trunk servers d) = kind.Trunk servers (demand_in columns d)

abbrev pub input_in : List Word → SaidInput → Input
input_in names input = record { node = number_in names input.name; out = input.out }

-- the node that a line declares, given the names of the nodes and of the columns
abbrev pub nodes_in : List Word → List Word → Said → List Node
nodes_in names columns (said.Bound n) = []
nodes_in names columns (said.Node name kind reads) = record { name = name; kind = kind_in columns kind; inputs = map (input_in names) reads } ∷ []

abbrev pub nodes_of : List Said → List Node
nodes_of saids = flat_map (nodes_in (names_of saids) (columns_of saids)) saids

-- the bound in the first line that gives one, or 2^60
abbrev pub bound_of : List Said → ℕ
bound_of [] = 2 ^ 60
bound_of (said.Bound n ∷ saids) = n
bound_of (said.Node name kind reads ∷ saids) = bound_of saids

-- the network that a text of this version declares
abbrev pub network_of : ℕ → List Said → Network
network_of version saids = record { nodes = nodes_of saids; columns = columns_of saids; bound = bound_of saids; version = version }

abbrev pub network_in : List ℕ → Network
network_in text = let lines = lines_of (without_mark text) in network_of (version_in lines) (saids_of lines)
