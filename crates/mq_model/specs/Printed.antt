-- The canonical text of a network: its head, with its version, the bound, and a line for each node in order of declaration.
-- Numbers are decimal, without leading zeros.
use Rattle.std.specs.Prelude.{ℕ, ◌∷◌, ◌++◌, ◌==◌, [], List, map, if◌then◌else◌, codes, decimal}
use Rattle.std.specs.List.{flat_map, join_with_byte}
use Rattle.mq_core.specs.declared.model.Network.{Network}
use Rattle.mq_model.specs.Form.{Word}
use Rattle.mq_model.specs.SaidOf.{saids_in}
use Rattle.mq_model.specs.declared.said.SaidDemand.{SaidDemand}
use Rattle.mq_model.specs.declared.said.SaidDemand.TheVariants.{Column, Fixed}
use Rattle.mq_model.specs.declared.said.SaidInput.{SaidInput}
use Rattle.mq_model.specs.declared.said.SaidRoute.{SaidRoute}
use Rattle.mq_model.specs.declared.said.SaidRoute.TheVariants.{Modulo, Turn, Cut}
use Rattle.mq_model.specs.declared.said.SaidStage.{SaidStage}
use Rattle.mq_model.specs.declared.said.SaidKind.{SaidKind}
use Rattle.mq_model.specs.declared.said.SaidKind.TheVariants.{Source, Server, Delay, Loss, Tandem, ForkJoin, Split, Fork, Join, Trunk}
use Rattle.mq_model.specs.declared.said.Said.{Said}
use Rattle.mq_model.specs.declared.said.Said.TheVariants.{Bound, Node}

-- a column's name, or an equals sign and a number
abbrev pub demand_word : SaidDemand → Word
demand_word (Column name) = name
demand_word (Fixed n) = 61 ∷ decimal n

-- an input is the node's name, followed, for an output above 0, by a dot and the output's number
abbrev pub input_word : SaidInput → Word
input_word input = if input.out == 0 then input.name else input.name ++ 46 ∷ decimal input.out

abbrev pub inputs_words : List SaidInput → List Word
inputs_words reads = codes "from" ∷ map input_word reads

abbrev pub route_words : SaidRoute → List Word
route_words (Modulo outputs column) = decimal outputs ∷ codes "mod" ∷ column ∷ []
route_words (Turn outputs) = decimal outputs ∷ codes "turn" ∷ []
route_words (Cut column thresholds) = codes "cut" ∷ column ∷ map decimal thresholds

-- a further stage
abbrev pub stage_words : SaidStage → List Word
stage_words stage = codes "/" ∷ decimal stage.places ∷ demand_word stage.demand ∷ []

-- the demand of the first stage; then for each further stage a slash, its places and its demand
abbrev pub stages_words : List SaidStage → List Word
stages_words [] = []
stages_words (stage ∷ stages) = demand_word stage.demand ∷ flat_map stage_words stages

-- a further branch
abbrev pub barred_words : List SaidDemand → List Word
barred_words demands = codes "|" ∷ map demand_word demands

-- the demands of each branch, and a bar before each further branch
abbrev pub branches_words : List (List SaidDemand) → List Word
branches_words [] = []
branches_words (demands ∷ branches) = map demand_word demands ++ flat_map barred_words branches

-- the first word of a node's line
abbrev pub first_word : SaidKind → Word
first_word Source = codes "source"
first_word (Server d) = codes "server"
first_word (Delay d) = codes "delay"
first_word (Loss places d) = codes "loss"
first_word (Tandem stages) = codes "tandem"
first_word (ForkJoin branches) = codes "forkjoin"
first_word (Split route) = codes "split"
first_word (Fork outputs) = codes "fork"
first_word Join = codes "join"
first_word (Trunk servers d) = codes "trunk"

-- the words between the name and the inputs
abbrev pub kind_words : SaidKind → List Word
kind_words Source = []
kind_words (Server d) = demand_word d ∷ []
kind_words (Delay d) = demand_word d ∷ []
kind_words (Loss places d) = decimal places ∷ demand_word d ∷ []
kind_words (Tandem stages) = stages_words stages
kind_words (ForkJoin branches) = branches_words branches
kind_words (Split route) = route_words route
kind_words (Fork outputs) = decimal outputs ∷ []
kind_words Join = []
kind_words (Trunk servers d) = decimal servers ∷ demand_word d ∷ []

-- a source has no inputs to read
abbrev pub reads_words : SaidKind → List SaidInput → List Word
reads_words Source reads = []
reads_words (Server d) reads = inputs_words reads
reads_words (Delay d) reads = inputs_words reads
reads_words (Loss places d) reads = inputs_words reads
reads_words (Tandem stages) reads = inputs_words reads
reads_words (ForkJoin branches) reads = inputs_words reads
reads_words (Split route) reads = inputs_words reads
reads_words (Fork outputs) reads = inputs_words reads
reads_words Join reads = inputs_words reads
reads_words (Trunk servers d) reads = inputs_words reads

abbrev pub said_words : Said → List Word
said_words (Bound n) = codes "bound" ∷ decimal n ∷ []
said_words (Node name kind reads) = first_word kind ∷ name ∷ (kind_words kind ++ reads_words kind reads)

-- a line: the words, separated by one space, and a line feed
abbrev pub line_text : List Word → List ℕ
line_text words = join_with_byte 32 words ++ 10 ∷ []

abbrev pub head_words : ℕ → List Word
head_words version = codes "model" ∷ decimal version ∷ []

-- the head, and what the network says, line by line
abbrev pub printed : Network → List ℕ
printed net = flat_map line_text (head_words net.version ∷ map said_words (saids_in net))

-- words after others in a line: each after a space
abbrev pub spaced : List Word → List ℕ
spaced words = flat_map (λ word. 32 ∷ word) words
