-- The rule of a trunk group.
use Rattle.std.specs.Prelude.{ℕ, ◌+◌, Bool, List, [], map}
use Rattle.mq_core.specs.Recurrences.{finds_server, trunk_fates}
use Rattle.mq_rounds.specs.Rounds.{Rule, admits}

-- which arrivals a trunk group with this many servers admits
abbrev pub admission : ℕ → List ℕ → List ℕ → List Bool
admission servers times demands = map admits (trunk_fates servers [] times demands)

-- the departure of an admitted job: it is served at once, whatever left before it
abbrev pub departure_at_once : List ℕ → ℕ → ℕ → ℕ
departure_at_once left arrive demand = arrive + demand

-- how a trunk group with this many servers judges an arrival, and when an admitted one departs
abbrev pub trunk_rule : ℕ → Rule
trunk_rule servers = record { judges = finds_server servers; departs = departure_at_once }
