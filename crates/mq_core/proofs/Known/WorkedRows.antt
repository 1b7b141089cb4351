-- Small networks worked by hand: each row below says what a run of one gives, and holds by computing the event list.
use Rattle.mq_core.specs.Came.{came_by}
use Rattle.std.proofs.Common.{◌≡◌, ℕ, zero, suc, ◌<◌, List, [], ◌∷◌, Some, None, map, refl, arith, ◌∙◌}
use Rattle.std.specs.Prelude.{IsTrue, codes}
use Rattle.mq_core.specs.Sequences.{sequence_exit, sequence_span, sequence_stream, sequence_totals, sequence_visits, visits_by_node}
use Rattle.mq_core.specs.Event.{earliest, is_below, order_key, sooner_of}
use Rattle.mq_core.specs.Local.{Local}
use Rattle.mq_core.specs.Machine.{Emission, State, Visit, after, step}
use Rattle.mq_core.specs.NetworkRun.{refusal_in, run_in}
use Rattle.mq_core.specs.Results.Refusal.{Past}
use Rattle.mq_core.specs.Results.{exit_of, refusal_of, stream_from, totals_of}
use Rattle.mq_core.specs.Sound.{is_sound}
use Rattle.mq_core.specs.Kinds.Split.{output_at}
use Rattle.mq_core.specs.Wiring.{first_ready, has, port_reading, rank_in, ranked_after, ranking, reader_from}
use Rattle.mq_core.specs.declared.model.Demand.TheVariants.{Column, Fixed}
use Rattle.mq_core.specs.declared.model.Fate.TheVariants.{Departs}
use Rattle.mq_core.specs.declared.model.Input.{Input}
use Rattle.mq_core.specs.declared.model.Kind.{Kind}
use Rattle.mq_core.specs.declared.model.Kind.TheVariants.{Delay, Server, Source, Split}
use Rattle.mq_core.specs.declared.model.Network.{Network}
use Rattle.mq_core.specs.declared.model.Node.{Node}
use Rattle.mq_core.specs.declared.model.Plan.{Plan}
use Rattle.mq_core.specs.declared.model.Route.TheVariants.{Cut, Modulo, Turn}
use Rattle.mq_core.specs.declared.model.Rows.{Rows}
use Rattle.mq_core.specs.declared.model.Stream.{Stream}
use Rattle.mq_core.specs.declared.model.Visits.{Visits}
use Rattle.mq_core.proofs.Known.ShortRuns.{at-end, refused_in}
use Rattle.mq_core.proofs.Networks.NetworkRuns.{runs-are-of-networks}

abbrev pub node_of : List ℕ → Kind → List Input → Node
node_of name kind inputs = record { name = name; kind = kind; inputs = inputs }

-- the first output of a node
abbrev pub from : ℕ → Input
from node = record { node = node; out = 0 }

abbrev pub net_of : List (List ℕ) → ℕ → List Node → Network
net_of columns bound nodes = record { nodes = nodes; columns = columns; bound = bound; version = 1 }

abbrev pub rows_of : List ℕ → List ℕ → List (List ℕ) → Rows
rows_of sources times demands = record { source = sources; time = times; demands = demands }

-- what a row tells of a node: who left it, by which output and when, what each visit found, and the tallies
pub record Seen : Type 0 where
  pub left : List (ℕ × ℕ × ℕ)
  pub found : List ℕ
  pub area : ℕ
  pub busy : ℕ

abbrev pub seen : State Local → ℕ → Seen
seen end v =
    record {
      left = map {B = ℕ × ℕ × ℕ} (λ (m : Emission). (m.job, m.out, m.time)) (end.stations v).emitted;
      found = map (λ (x : Visit). x.found) (end.stations v).visits;
      area = (end.stations v).area;
      busy = (end.stations v).busy;
    }

-- a run that ended at this time: nothing is pending
abbrev pub EndsAt : State Local → ℕ → Type 0
EndsAt end span = (end.clock ≡ span) × (end.pending ≡ [])

-- one source and one server
abbrev desk_net : ℕ → Network
desk_net bound = net_of (codes "d" ∷ []) bound (node_of (codes "src") Source [] ∷ node_of (codes "desk") (Server (Column 0)) (from 0 ∷ []) ∷ [])

desk-sound : (IsTrue (is_sound (desk_net 7))) × (IsTrue (is_sound (desk_net (1152921504606846976))))
desk-sound = (refl, refl)

-- No rows.
abbrev no_rows : Rows
no_rows = rows_of [] [] ([] ∷ [])

empty-row : EndsAt (run_in (desk_net 7) no_rows) 0 × (seen (run_in (desk_net 7) no_rows) 1 ≡ record { left = []; found = []; area = 0; busy = 0 })
unfolding after step earliest sooner_of is_below order_key rank_in reader_from port_reading ranked_after first_ready
empty-row = ((refl, refl), refl)

-- Three rows, of which two wait.
abbrev three : Rows
three = rows_of (0 ∷ 0 ∷ 0 ∷ []) (0 ∷ 1 ∷ 2 ∷ []) ((4 ∷ 1 ∷ 3 ∷ []) ∷ [])

-- what each visit is
abbrev desk_visits : Visits
desk_visits =
    record { job = 0 ∷ 1 ∷ 2 ∷ []; arrive = 0 ∷ 1 ∷ 2 ∷ []; found = 0 ∷ 1 ∷ 2 ∷ []; fate = Departs 4 ∷ Departs 5 ∷ Departs 8 ∷ [] }

abbrev source_visits : Visits
source_visits =
    record { job = 0 ∷ 1 ∷ 2 ∷ []; arrive = 0 ∷ 1 ∷ 2 ∷ []; found = 0 ∷ 0 ∷ 0 ∷ []; fate = Departs 0 ∷ Departs 1 ∷ Departs 2 ∷ [] }

abbrev desk_stream : Stream
desk_stream = record { job = 0 ∷ 1 ∷ 2 ∷ []; time = 4 ∷ 5 ∷ 8 ∷ [] }

-- what holds of its run
abbrev IsOrdinary : State Local → Type 0
IsOrdinary end =
    EndsAt end 8
    × (seen end 0 ≡ record { left = (0, 0, 0) ∷ (1, 0, 1) ∷ (2, 0, 2) ∷ []; found = 0 ∷ 0 ∷ 0 ∷ []; area = 0; busy = 0 })
    × (seen end 1 ≡ record { left = (0, 0, 4) ∷ (1, 0, 5) ∷ (2, 0, 8) ∷ []; found = 0 ∷ 1 ∷ 2 ∷ []; area = 14; busy = 8 })
    × (totals_of three (Server (Column 0)) (end.stations 1) ≡ record { came = 3; left = 3; lost = 0; held = 0; wait = 6; longest = 3; busy = 8; area = 14; peak = 3 })
    × (exit_of three (end.stations 1) 0 ≡ (3, 14))
    × (visits_by_node end 0 (desk_net 100).nodes ≡ source_visits ∷ desk_visits ∷ []) × (stream_from (end.stations 1) 0 ≡ desk_stream)

ordinary-row : IsOrdinary (run_in (desk_net 100) three)
unfolding after step earliest sooner_of is_below order_key rank_in reader_from port_reading ranked_after first_ready
ordinary-row = at-end 9 (desk_net 100) three IsOrdinary (omega arith) refl ((refl, refl), refl, refl, refl, refl, refl, refl)

-- the same in sequences
ordinary-sequences : (sequence_visits three (Server (Column 0)) (came_by (0 ∷ 1 ∷ 2 ∷ []) (0 ∷ 1 ∷ 2 ∷ [])) ≡ desk_visits)
    × (sequence_visits three Source (came_by (0 ∷ 1 ∷ 2 ∷ []) (0 ∷ 1 ∷ 2 ∷ [])) ≡ source_visits)
    × (sequence_stream three (Server (Column 0)) (came_by (0 ∷ 1 ∷ 2 ∷ []) (0 ∷ 1 ∷ 2 ∷ [])) 0 ≡ desk_stream)
    × (sequence_totals three (Server (Column 0)) desk_visits 8 ≡ record { came = 3; left = 3; lost = 0; held = 0; wait = 6; longest = 3; busy = 8; area = 14; peak = 3 })
    × (sequence_totals three Source source_visits 8 ≡ record { came = 3; left = 3; lost = 0; held = 0; wait = 0; longest = 0; busy = 0; area = 0; peak = 0 })
    × (sequence_exit three desk_stream ≡ (3, 14)) × (sequence_span (source_visits ∷ desk_visits ∷ []) ≡ 8)
ordinary-sequences = (refl, refl, refl, refl, refl, refl, refl)

-- The same rows in reverse: they go by time, and each keeps its number.
abbrev reversed : Rows
reversed = rows_of (0 ∷ 0 ∷ 0 ∷ []) (2 ∷ 1 ∷ 0 ∷ []) ((3 ∷ 1 ∷ 4 ∷ []) ∷ [])

abbrev IsReversed : State Local → Type 0
IsReversed end = seen end 1 ≡ record { left = (2, 0, 4) ∷ (1, 0, 5) ∷ (0, 0, 8) ∷ []; found = 0 ∷ 1 ∷ 2 ∷ []; area = 14; busy = 8 }

reversed-row : IsReversed (run_in (desk_net 100) reversed)
unfolding after step earliest sooner_of is_below order_key rank_in reader_from port_reading ranked_after first_ready
reversed-row = at-end 9 (desk_net 100) reversed IsReversed (omega arith) refl refl

-- Two sources at one time: the server reads b before a, so b's job is the first.
abbrev tie_net : Network
tie_net =
    net_of (codes "d" ∷ []) 100
    (node_of (codes "a") Source [] ∷ node_of (codes "b") Source [] ∷ node_of (codes "q") (Server (Column 0)) (from 1 ∷ from 0 ∷ []) ∷ [])

abbrev tie_rows : Rows
tie_rows = rows_of (0 ∷ 1 ∷ []) (5 ∷ 5 ∷ []) ((2 ∷ 3 ∷ []) ∷ [])

abbrev IsTied : State Local → Type 0
IsTied end =
    EndsAt end 10
    × (seen end 2 ≡ record { left = (1, 0, 8) ∷ (0, 0, 10) ∷ []; found = 0 ∷ 1 ∷ []; area = 8; busy = 5 })
    × (totals_of tie_rows (Server (Column 0)) (end.stations 2) ≡ record { came = 2; left = 2; lost = 0; held = 0; wait = 3; longest = 3; busy = 5; area = 8; peak = 2 })

tie-row : IsTrue (is_sound tie_net) × IsTied (run_in tie_net tie_rows)
unfolding after step earliest sooner_of is_below order_key rank_in reader_from port_reading ranked_after first_ready
tie-row = (refl, at-end 6 tie_net tie_rows IsTied (omega arith) refl ((refl, refl), refl, refl))

-- Two arrivals at one time with no demand: the first has left when the second comes.
abbrev no_demand : Rows
no_demand = rows_of (0 ∷ 0 ∷ []) (3 ∷ 3 ∷ []) ((0 ∷ 0 ∷ []) ∷ [])

abbrev IsFinishFirst : State Local → Type 0
IsFinishFirst end = EndsAt end 3 × (seen end 1 ≡ record { left = (0, 0, 3) ∷ (1, 0, 3) ∷ []; found = 0 ∷ 0 ∷ []; area = 0; busy = 0 })

finish-first-row : IsFinishFirst (run_in (desk_net 100) no_demand)
unfolding after step earliest sooner_of is_below order_key rank_in reader_from port_reading ranked_after first_ready
finish-first-row = at-end 6 (desk_net 100) no_demand IsFinishFirst (omega arith) refl ((refl, refl), refl)

-- The third departure passes the bound.
past-row : refusal_in (desk_net 7) three ≡ Some (Past (record { node = 1; position = 2; time = 8 }))
unfolding after step earliest sooner_of is_below order_key rank_in reader_from port_reading ranked_after first_ready
past-row = at-end 9 (desk_net 7) three (λ end. refused_in (desk_net 7) end ≡ Some (Past (record { node = 1; position = 2; time = 8 }))) (omega arith) refl refl

-- a departure at the bound doesn't pass it
at-bound-row : refusal_in (desk_net 8) three ≡ None
unfolding after step earliest sooner_of is_below order_key rank_in reader_from port_reading ranked_after first_ready
at-bound-row = at-end 9 (desk_net 8) three (λ end. refused_in (desk_net 8) end ≡ None) (omega arith) refl refl

-- a row later than the bound passes it at its source
past-source-row : refusal_in (desk_net 1) three ≡ Some (Past (record { node = 0; position = 2; time = 2 }))
unfolding after step earliest sooner_of is_below order_key rank_in reader_from port_reading ranked_after first_ready
past-source-row = at-end 9 (desk_net 1) three (λ end. refused_in (desk_net 1) end ≡ Some (Past (record { node = 0; position = 2; time = 2 }))) (omega arith) refl refl

-- Two departures pass the bound: that of the lower rank is named, though it is the smaller.
abbrev two_desks : Network
two_desks =
    net_of [] 5
    (node_of (codes "a") Source [] ∷ node_of (codes "b") Source [] ∷ node_of (codes "qb") (Server (Fixed 7)) (from 1 ∷ [])
    ∷ node_of (codes "qa") (Server (Fixed 9)) (from 0 ∷ []) ∷ [])

abbrev two_rows : Rows
two_rows = rows_of (0 ∷ 1 ∷ []) (0 ∷ 0 ∷ []) []

two-past-row : IsTrue (is_sound two_desks) × (refusal_in two_desks two_rows ≡ Some (Past (record { node = 2; position = 0; time = 7 })))
unfolding after step earliest sooner_of is_below order_key rank_in reader_from port_reading ranked_after first_ready
two-past-row = (refl, at-end 6 two_desks two_rows (λ end. refused_in two_desks end ≡ Some (Past (record { node = 2; position = 0; time = 7 }))) (omega arith) refl refl)

-- A split by two thresholds.
abbrev cut_net : Network
cut_net = net_of (codes "k" ∷ []) 100 (node_of (codes "src") Source [] ∷ node_of (codes "p") (Split (Cut 0 (10 ∷ 20 ∷ []))) (from 0 ∷ []) ∷ [])

abbrev cut_rows : Rows
cut_rows = rows_of (0 ∷ 0 ∷ 0 ∷ []) (0 ∷ 1 ∷ 2 ∷ []) ((9 ∷ 10 ∷ 20 ∷ []) ∷ [])

abbrev IsCut : State Local → Type 0
IsCut end =
    EndsAt end 2
    × (seen end 1 ≡ record { left = (0, 0, 0) ∷ (1, 1, 1) ∷ (2, 2, 2) ∷ []; found = 0 ∷ 0 ∷ 0 ∷ []; area = 0; busy = 0 })
    × (map {B = ℕ × ℕ} (exit_of cut_rows (end.stations 1)) (0 ∷ 1 ∷ 2 ∷ []) ≡ (1, 0) ∷ (1, 0) ∷ (1, 0) ∷ [])

cut-row : IsTrue (is_sound cut_net) × IsCut (run_in cut_net cut_rows)
    × (sequence_stream cut_rows (Split (Cut 0 (10 ∷ 20 ∷ []))) (came_by (0 ∷ 1 ∷ 2 ∷ []) (0 ∷ 1 ∷ 2 ∷ [])) 2 ≡ record { job = 2 ∷ []; time = 2 ∷ [] })
unfolding after step earliest sooner_of is_below order_key rank_in reader_from port_reading ranked_after first_ready
cut-row = (refl, at-end 6 cut_net cut_rows IsCut (omega arith) refl ((refl, refl), refl, refl), refl)

-- the three routes
routes-row : (map (λ value. output_at (Modulo 3 0) value 0) (6 ∷ 7 ∷ 8 ∷ []) ≡ 0 ∷ 1 ∷ 2 ∷ [])
    × (map (output_at (Turn 2) 0) (0 ∷ 1 ∷ 2 ∷ []) ≡ 0 ∷ 1 ∷ 0 ∷ [])
    × (map (λ value. output_at (Cut 0 (10 ∷ 20 ∷ [])) value 0) (9 ∷ 10 ∷ 20 ∷ []) ≡ 0 ∷ 1 ∷ 2 ∷ [])
routes-row = (refl, refl, refl)

-- Sources alone: the span is the time of the latest row.
abbrev sources_net : Network
sources_net = net_of [] 100 (node_of (codes "a") Source [] ∷ node_of (codes "b") Source [] ∷ [])

abbrev sources_rows : Rows
sources_rows = rows_of (0 ∷ 1 ∷ 0 ∷ 1 ∷ []) (0 ∷ 9 ∷ 4 ∷ 2 ∷ []) []

abbrev AreSources : State Local → Type 0
AreSources end =
    EndsAt end 9
    × (seen end 0 ≡ record { left = (0, 0, 0) ∷ (2, 0, 4) ∷ []; found = 0 ∷ 0 ∷ []; area = 0; busy = 0 })
    × (seen end 1 ≡ record { left = (3, 0, 2) ∷ (1, 0, 9) ∷ []; found = 0 ∷ 0 ∷ []; area = 0; busy = 0 })
    × (exit_of sources_rows (end.stations 1) 0 ≡ (2, 0))

sources-row : IsTrue (is_sound sources_net) × AreSources (run_in sources_net sources_rows)
unfolding after step earliest sooner_of is_below order_key rank_in reader_from port_reading ranked_after first_ready
sources-row = (refl, at-end 4 sources_net sources_rows AreSources (omega arith) refl ((refl, refl), refl, refl, refl))

-- A server that is declared before its source is ranked behind it.
abbrev backward_net : Network
backward_net = net_of [] 100 (node_of (codes "q") (Server (Fixed 1)) (from 1 ∷ []) ∷ node_of (codes "s") Source [] ∷ [])

abbrev backward_rows : Rows
backward_rows = rows_of (1 ∷ 1 ∷ []) (4 ∷ 4 ∷ []) []

abbrev IsBackward : State Local → Type 0
IsBackward end = seen end 0 ≡ record { left = (0, 0, 5) ∷ (1, 0, 6) ∷ []; found = 0 ∷ 1 ∷ []; area = 3; busy = 2 }

backward-row : IsTrue (is_sound backward_net) × (ranking backward_net.nodes ≡ 1 ∷ 0 ∷ []) × IsBackward (run_in backward_net backward_rows)
unfolding after step earliest sooner_of is_below order_key rank_in reader_from port_reading ranked_after first_ready
backward-row = (refl, refl, at-end 6 backward_net backward_rows IsBackward (omega arith) refl refl)

-- A ring is never ranked: its nodes are left out.
ring-row : ranking (node_of (codes "s") Source [] ∷ node_of (codes "a") (Server (Fixed 1)) (from 0 ∷ from 2 ∷ []) ∷ node_of (codes "b") (Server (Fixed 1)) (from 1 ∷ []) ∷ []) ≡ 0 ∷ []
unfolding ranked_after first_ready
ring-row = refl

-- Two servers in series.
abbrev chain_net : Network
chain_net =
    net_of [] 100
    (node_of (codes "src") Source [] ∷ node_of (codes "first") (Server (Fixed 2)) (from 0 ∷ []) ∷ node_of (codes "second") (Server (Fixed 3)) (from 1 ∷ []) ∷ [])

abbrev chain_rows : Rows
chain_rows = rows_of (0 ∷ 0 ∷ []) (0 ∷ 1 ∷ []) []

abbrev IsChain : State Local → Type 0
IsChain end =
    EndsAt end 8
    × (seen end 1 ≡ record { left = (0, 0, 2) ∷ (1, 0, 4) ∷ []; found = 0 ∷ 1 ∷ []; area = 5; busy = 4 })
    × (seen end 2 ≡ record { left = (0, 0, 5) ∷ (1, 0, 8) ∷ []; found = 0 ∷ 1 ∷ []; area = 7; busy = 6 })

chain-row : IsTrue (is_sound chain_net) × IsChain (run_in chain_net chain_rows)
unfolding after step earliest sooner_of is_below order_key rank_in reader_from port_reading ranked_after first_ready
chain-row = (refl, at-end 10 chain_net chain_rows IsChain (omega arith) refl ((refl, refl), refl, refl))

-- A job overtakes another in a delay, and comes first at the server behind it.
abbrev overtaking_net : Network
overtaking_net =
    net_of (codes "d" ∷ []) 100
    (node_of (codes "src") Source [] ∷ node_of (codes "w") (Delay (Column 0)) (from 0 ∷ []) ∷ node_of (codes "q") (Server (Fixed 2)) (from 1 ∷ []) ∷ [])

abbrev overtaking_rows : Rows
overtaking_rows = rows_of (0 ∷ 0 ∷ []) (0 ∷ 1 ∷ []) ((5 ∷ 1 ∷ []) ∷ [])

abbrev IsOvertaking : State Local → Type 0
IsOvertaking end =
    EndsAt end 7
    × (seen end 1 ≡ record { left = (1, 0, 2) ∷ (0, 0, 5) ∷ []; found = 0 ∷ 1 ∷ []; area = 6; busy = 6 })
    × (seen end 2 ≡ record { left = (1, 0, 4) ∷ (0, 0, 7) ∷ []; found = 0 ∷ 0 ∷ []; area = 4; busy = 4 })
    × (totals_of overtaking_rows (Delay (Column 0)) (end.stations 1) ≡ record { came = 2; left = 2; lost = 0; held = 0; wait = 0; longest = 0; busy = 6; area = 6; peak = 2 })

overtaking-row : IsTrue (is_sound overtaking_net) × IsOvertaking (run_in overtaking_net overtaking_rows)
    × (sequence_stream overtaking_rows (Delay (Column 0)) (came_by (0 ∷ 1 ∷ []) (0 ∷ 1 ∷ [])) 0 ≡ record { job = 1 ∷ 0 ∷ []; time = 2 ∷ 5 ∷ [] })
unfolding after step earliest sooner_of is_below order_key rank_in reader_from port_reading ranked_after first_ready
overtaking-row = (refl, at-end 10 overtaking_net overtaking_rows IsOvertaking (omega arith) refl ((refl, refl), refl, refl, refl), refl)

-- A plan of the first network, whose run is that of the network.
desk-whole : (n : ℕ) → n < 2 → IsTrue (has (0 ∷ 1 ∷ []) n)
desk-whole zero h = refl
desk-whole (suc zero) h = refl
desk-whole (suc (suc n)) h = absurd (omega arith)

desk-ranked : 0 ∷ 1 ∷ [] ≡ ranking (desk_net 7).nodes
unfolding ranked_after first_ready
desk-ranked = refl

abbrev desk_plan : Plan
desk_plan = record { net = desk_net 7; order = 0 ∷ 1 ∷ []; sound = refl; ranked = desk-ranked; whole = desk-whole }

plan-row : refusal_of desk_plan three ≡ Some (Past (record { node = 1; position = 2; time = 8 }))
plan-row = (runs-are-of-networks desk_plan three).1 ∙ past-row
