-- What the lines of a model say: names, columns, inputs and sources.
use Rattle.std.specs.Prelude.{◌+◌, ◌∷◌, ◌++◌, ◌&&◌, ◌==◌, [], ℕ, List, length, Bool, true, false, if◌then◌else◌, nat_lt}
use Rattle.std.specs.List.{list_any, flat_map}
use Rattle.std.specs.Str.{bytes_eq}
use Rattle.mq_model.specs.Form.{Word}
use Rattle.mq_model.specs.declared.said.SaidDemand.{SaidDemand}
use Rattle.mq_model.specs.declared.said.SaidDemand.TheVariants.{Column, Fixed}
use Rattle.mq_model.specs.declared.said.SaidInput.{SaidInput}
use Rattle.mq_model.specs.declared.said.SaidRoute.{SaidRoute}
use Rattle.mq_model.specs.declared.said.SaidRoute.TheVariants.{Modulo, Turn, Cut}
use Rattle.mq_model.specs.declared.said.SaidStage.{SaidStage}
use Rattle.mq_model.specs.declared.said.SaidKind.{SaidKind}
use Rattle.mq_model.specs.declared.said.SaidKind.TheVariants.{Source, Server, Delay, Loss, Tandem, ForkJoin, Split, Fork, Join, Trunk}
use Rattle.mq_model.specs.declared.said.Said.{Said}
use Rattle.mq_model.specs.declared.said.Said.TheVariants.{Bound, Node}

-- the name of the node that a line declares
abbrev pub declared : Said → List Word
declared (Bound n) = []
declared (Node name kind reads) = name ∷ []

abbrev pub names_of : List Said → List Word
names_of saids = flat_map declared saids

-- the columns that a line mentions, in the order of its words
abbrev pub mentions_of_demand : SaidDemand → List Word
mentions_of_demand (Column name) = name ∷ []
mentions_of_demand (Fixed n) = []

abbrev pub mentions_of_route : SaidRoute → List Word
mentions_of_route (Modulo outputs column) = column ∷ []
mentions_of_route (Turn outputs) = []
mentions_of_route (Cut column thresholds) = column ∷ []

abbrev pub mentions_of_kind : SaidKind → List Word
mentions_of_kind Source = []
mentions_of_kind (Server d) = mentions_of_demand d
mentions_of_kind (Delay d) = mentions_of_demand d
mentions_of_kind (Loss places d) = mentions_of_demand d
mentions_of_kind (Tandem stages) = flat_map (λ (stage : SaidStage). mentions_of_demand stage.demand) stages
mentions_of_kind (ForkJoin branches) = flat_map (λ demands. flat_map mentions_of_demand demands) branches
mentions_of_kind (Split route) = mentions_of_route route
mentions_of_kind (Fork outputs) = []
mentions_of_kind Join = []
mentions_of_kind (Trunk servers d) = mentions_of_demand d

abbrev pub mentioned : Said → List Word
mentioned (Bound n) = []
mentioned (Node name kind reads) = mentions_of_kind kind

abbrev pub is_among : List Word → Word → Bool
is_among names name = list_any (λ other. bytes_eq other name) names

-- the names that aren't among the earlier ones, each once, where it first appears
unfoldable pub distinct_after : List Word → List Word → List Word
distinct_after before [] = []
distinct_after before (name ∷ more) = if is_among before name then distinct_after before more else name ∷ distinct_after (before ++ name ∷ []) more

-- the columns, in order of first mention
abbrev pub columns_of : List Said → List Word
columns_of saids = distinct_after [] (flat_map mentioned saids)

-- columns, with a name added unless it is among them
abbrev pub added : List Word → Word → List Word
added columns name = if is_among columns name then columns else columns ++ name ∷ []

abbrev pub columns_after : List Word → List Word → List Word
columns_after columns [] = columns
columns_after columns (name ∷ names) = columns_after (added columns name) names

-- the inputs of a line, by port
abbrev pub reads_of : Said → List SaidInput
reads_of (Bound n) = []
reads_of (Node name kind reads) = reads

-- the number of outputs of a node
abbrev pub outputs_of_route : SaidRoute → ℕ
outputs_of_route (Modulo outputs column) = outputs
outputs_of_route (Turn outputs) = outputs
outputs_of_route (Cut column thresholds) = length thresholds + 1

abbrev pub outputs_of : SaidKind → ℕ
outputs_of Source = 1
outputs_of (Server d) = 1
outputs_of (Delay d) = 1
outputs_of (Loss places d) = 2
outputs_of (Tandem stages) = 1
outputs_of (ForkJoin branches) = 1
outputs_of (Split route) = outputs_of_route route
outputs_of (Fork outputs) = outputs
outputs_of Join = 1
outputs_of (Trunk servers d) = 2

-- a line declares the node of this input, and the node has the output
abbrev pub gives : SaidInput → Said → Bool
gives input (Bound n) = false
gives input (Node name kind reads) = bytes_eq name input.name && nat_lt input.out (outputs_of kind)

abbrev pub is_same_input : SaidInput → SaidInput → Bool
is_same_input a b = bytes_eq a.name b.name && (a.out == b.out)

abbrev pub is_source_said : SaidKind → Bool
is_source_said Source = true
is_source_said (Server d) = false
is_source_said (Delay d) = false
is_source_said (Loss places d) = false
is_source_said (Tandem stages) = false
is_source_said (ForkJoin branches) = false
is_source_said (Split route) = false
is_source_said (Fork outputs) = false
is_source_said Join = false
is_source_said (Trunk servers d) = false

abbrev pub is_source : Said → Bool
is_source (Bound n) = false
is_source (Node name kind reads) = is_source_said kind
