-- The grammar of a model's lines.
use Rattle.std.specs.Prelude.{◌-◌, ◌^◌, ◌∷◌, ◌||◌, ◌&&◌, ◌==◌, [], ℕ, zero, suc, List, length, take, get_or, Bool, false, if◌then◌else◌, nat_le, nat_lt, codes}
use Rattle.std.specs.Str.{bytes_eq}
use Rattle.std.specs.Str.Parse.{digits_value}
use Rattle.mq_core.specs.Names.{is_name}
use Rattle.mq_base.specs.Text.{is_number}
use Rattle.mq_model.specs.declared.said.SaidDemand.{SaidDemand}
use Rattle.mq_model.specs.declared.said.SaidDemand.TheVariants.{Column, Fixed}
use Rattle.mq_model.specs.declared.said.SaidInput.{SaidInput}
use Rattle.mq_model.specs.declared.said.SaidRoute.{SaidRoute}
use Rattle.mq_model.specs.declared.said.SaidRoute.TheVariants.{Modulo, Turn, Cut}
use Rattle.mq_model.specs.declared.said.SaidStage.{SaidStage}
use Rattle.mq_model.specs.declared.said.SaidKind.{SaidKind}
use Rattle.mq_model.specs.declared.said.SaidKind.TheVariants.{Source, Server, Delay, Loss, Tandem, ForkJoin, Split, Fork, Join, Trunk}
use Rattle.mq_model.specs.declared.said.Said.{Said}
use Rattle.mq_model.specs.declared.said.Said.TheVariants.{Bound, Node}
use Rattle.mq_model.specs.Form.{◌>>=◌, Form, Word, stop, word, maybe, one, up_to}

-- Classes of words: a number of at most this.
abbrev pub is_up_to : ℕ → Word → Bool
is_up_to limit w = is_number w limit

-- a number in this range
abbrev pub is_from_to : ℕ → ℕ → Word → Bool
is_from_to least most w = is_number w most && nat_le least (digits_value 10 w)

abbrev pub value_of : Word → ℕ
value_of w = digits_value 10 w

abbrev pub is_key : Word → Word → Bool
is_key key w = bytes_eq w key

abbrev pub greatest_demand : ℕ
greatest_demand = 2 ^ 36

-- a column's name, or an equals sign and a number
abbrev pub is_demand : Word → Bool
is_demand [] = false
is_demand (b ∷ more) = if b == 61 then is_number more greatest_demand else is_name (b ∷ more)

abbrev pub demand_of : Word → SaidDemand
demand_of [] = Fixed 0
demand_of (b ∷ more) = if b == 61 then Fixed (value_of more) else Column (b ∷ more)

-- the last byte of a word, or 0
abbrev pub last_byte : Word → ℕ
last_byte w = get_or w (length w - 1) 0

abbrev pub ends_in_output : Word → Bool
ends_in_output w = nat_le 2 (length w) && (get_or w (length w - 2) 0 == 46) && nat_le 48 (last_byte w) && nat_le (last_byte w) 55

-- a name, or a name, a dot and a digit from 0 to 7
abbrev pub is_input : Word → Bool
is_input w = is_name w || (ends_in_output w && is_name (take (length w - 2) w))

abbrev pub input_of : Word → SaidInput
input_of w = if is_name w then record { name = w; out = 0 } else record { name = take (length w - 2) w; out = last_byte w - 48 }

-- Parts of lines: this word.
abbrev pub key : Word → Form (Unit {0})
key k = word (is_key k) (λ _. stop tt)

abbrev pub a_name : Form Word
a_name = one is_name (λ w. w)

abbrev pub a_demand : Form SaidDemand
a_demand = one is_demand demand_of

-- the inputs, which end a line: 1 to 8
unfoldable pub inputs : Form (List SaidInput)
inputs = do
  _ ← key (codes "from")
  first ← one is_input input_of
  more ← up_to 7 is_input input_of
  stop (first ∷ more)

-- the inputs of a join, which end a line: 2 to 8
unfoldable pub joined_inputs : Form (List SaidInput)
joined_inputs = do
  _ ← key (codes "from")
  first ← one is_input input_of
  second ← one is_input input_of
  more ← up_to 6 is_input input_of
  stop (first ∷ second ∷ more)

-- a threshold greater than the last
abbrev pub is_above : ℕ → Word → Bool
is_above last w = is_number w greatest_demand && nat_lt last (digits_value 10 w)

-- at most n further thresholds, each greater than the one before
unfoldable pub rising : ℕ → ℕ → Form (List ℕ)
rising zero last = stop []
rising (suc n) last =
    if nat_lt last greatest_demand then maybe (is_above last) (λ w. rising n (value_of w) >>= λ more. stop (value_of w ∷ more)) (stop []) else stop []

unfoldable pub thresholds : Form (List ℕ)
thresholds = do
  first ← one (is_up_to greatest_demand) value_of
  more ← rising 6 first
  stop (first ∷ more)

unfoldable pub cut_route : Form SaidRoute
cut_route = do
  column ← a_name
  cuts ← thresholds
  stop (Cut column cuts)

unfoldable pub modulo_route : ℕ → Form SaidRoute
modulo_route outputs = a_name >>= λ column. stop (Modulo outputs column)

unfoldable pub way_of : ℕ → Form SaidRoute
way_of outputs = maybe (is_key (codes "mod")) (λ _. modulo_route outputs) (key (codes "turn") >>= λ _. stop (Turn outputs))

unfoldable pub counted_route : Form SaidRoute
counted_route = one (is_from_to 2 8) value_of >>= way_of

unfoldable pub a_route : Form SaidRoute
a_route = maybe (is_key (codes "cut")) (λ _. cut_route) counted_route

-- The kinds: the words between the name and the inputs.
abbrev pub server_kind : Form SaidKind
server_kind = a_demand >>= λ demand. stop (Server demand)

abbrev pub delay_kind : Form SaidKind
delay_kind = a_demand >>= λ demand. stop (Delay demand)

unfoldable pub loss_kind : Form SaidKind
loss_kind = do
  places ← one (is_from_to 1 1048576) value_of
  demand ← a_demand
  stop (Loss places demand)

-- the places and the demand of a stage, after its slash
unfoldable pub a_stage : Form SaidStage
a_stage = do
  places ← one (is_from_to 1 4) value_of
  demand ← a_demand
  stop (record { places = places; demand = demand })

-- at most n further stages
unfoldable pub stages : ℕ → Form (List SaidStage)
stages zero = stop []
stages (suc n) = maybe (is_key (codes "/")) (λ _. a_stage >>= λ stage. stages n >>= λ more. stop (stage ∷ more)) (stop [])

-- the stages of a tandem, given the demand of the first
unfoldable pub stages_behind : SaidDemand → Form (List SaidStage)
stages_behind first = do
  _ ← key (codes "/")
  second ← a_stage
  more ← stages 2
  stop (record { places = 0; demand = first } ∷ second ∷ more)

unfoldable pub tandem_kind : Form SaidKind
tandem_kind = do
  first ← a_demand
  all ← stages_behind first
  stop (Tandem all)

-- how many demands may follow the first of a branch, if this many of the line's 8 are left
abbrev pub room_of : ℕ → ℕ
room_of left = if nat_lt 3 left then 3 else left - 1

-- a branch: 1 to 4 demands
unfoldable pub a_branch : ℕ → Form (List SaidDemand)
a_branch left = do
  first ← a_demand
  more ← up_to (room_of left) is_demand demand_of
  stop (first ∷ more)

-- at most n further branches, each after a bar
unfoldable pub branches : ℕ → ℕ → Form (List (List SaidDemand))
branches zero left = stop []
branches (suc n) left =
    if nat_lt 0 left
    then maybe (is_key (codes "|")) (λ _. a_branch left >>= λ demands. branches n (left - length demands) >>= λ more. stop (demands ∷ more)) (stop [])
    else stop []

unfoldable pub all_branches : Form (List (List SaidDemand))
all_branches = do
  first ← a_branch 8
  _ ← key (codes "|")
  second ← a_branch (8 - length first)
  more ← branches 6 (8 - length first - length second)
  stop (first ∷ second ∷ more)

unfoldable pub forkjoin_kind : Form SaidKind
forkjoin_kind = all_branches >>= λ all. stop (ForkJoin all)

abbrev pub split_kind : Form SaidKind
split_kind = a_route >>= λ route. stop (Split route)

-- the number of outputs of a fork
abbrev pub fork_kind : Form SaidKind
fork_kind = one (is_from_to 2 4) (λ w. Fork (value_of w))

-- the number of servers of a trunk group, and its demand
unfoldable pub trunk_kind : Form SaidKind
trunk_kind = do
  servers ← one (is_from_to 1 255) value_of
  demand ← a_demand
  stop (Trunk servers demand)

unfoldable pub node_line : Form SaidKind → Form Said
node_line kind = do
  name ← a_name
  said ← kind
  reads ← inputs
  stop (Node name said reads)

-- the words after `bound`
abbrev pub bound_line : Form Said
bound_line = one (is_up_to (2 ^ 60)) (λ w. Bound (value_of w))

abbrev pub source_line : Form Said
source_line = a_name >>= λ name. stop (Node name Source [])

-- a join has nothing between its name and its inputs, of which it has at least two
unfoldable pub join_line : Form Said
join_line = do
  name ← a_name
  reads ← joined_inputs
  stop (Node name Join reads)

-- The table of lines by their first word: first the kinds with inputs.
unfoldable pub kind_line : Form Said
kind_line =
    maybe (is_key (codes "server")) (λ _. node_line server_kind)
    (maybe (is_key (codes "delay")) (λ _. node_line delay_kind)
    (maybe (is_key (codes "loss")) (λ _. node_line loss_kind)
    (maybe (is_key (codes "tandem")) (λ _. node_line tandem_kind)
    (maybe (is_key (codes "forkjoin")) (λ _. node_line forkjoin_kind)
    (word (is_key (codes "split")) (λ _. node_line split_kind))))))

-- all lines of version 1
unfoldable pub first_line : Form Said
first_line = maybe (is_key (codes "bound")) (λ _. bound_line) (maybe (is_key (codes "source")) (λ _. source_line) kind_line)

-- all lines of version 2, which has three more
unfoldable pub line : Form Said
line =
    maybe (is_key (codes "fork")) (λ _. node_line fork_kind)
    (maybe (is_key (codes "join")) (λ _. join_line)
    (maybe (is_key (codes "trunk")) (λ _. node_line trunk_kind) first_line))
