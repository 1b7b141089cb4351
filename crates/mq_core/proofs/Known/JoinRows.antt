-- Forks and joins worked by hand: each row below says what a run of a small network gives, and holds by computing the event list.
use Rattle.std.proofs.Common.{◌≡◌, ℕ, zero, suc, ◌+◌, ◌<◌, ◌≤◌, arith, false, List, [], ◌∷◌, refl, sum}
use Rattle.std.specs.Prelude.{IsTrue, codes}
use Rattle.mq_core.specs.Came.{Came, came_of}
use Rattle.mq_core.specs.Event.{earliest, is_below, order_key, sooner_of}
use Rattle.mq_core.specs.Local.{Local}
use Rattle.mq_core.specs.Machine.{State, Visit, after, step}
use Rattle.mq_core.specs.Matched.{IsMatchedAt, IsUnmatched, Item}
use Rattle.mq_core.specs.NetworkRun.{run_in}
use Rattle.mq_core.specs.Results.{exit_of, stream_from, totals_of, visits_of}
use Rattle.mq_core.specs.RowLaws.{row_times}
use Rattle.mq_core.specs.Sequences.{sequence_stream, sequence_totals, sequence_visits}
use Rattle.mq_core.specs.Sound.{is_sound}
use Rattle.mq_core.specs.Wiring.{first_ready, port_reading, rank_in, ranked_after, reader_from}
use Rattle.mq_core.specs.declared.model.Demand.TheVariants.{Fixed}
use Rattle.mq_core.specs.declared.model.Fate.TheVariants.{Departs, Held}
use Rattle.mq_core.specs.declared.model.Kind.{Kind}
use Rattle.mq_core.specs.declared.model.Kind.TheVariants.{Fork, Join, Loss, Server, Source}
use Rattle.mq_core.specs.declared.model.Network.{Network}
use Rattle.mq_core.specs.declared.model.Rows.{Rows}
use Rattle.mq_core.specs.declared.model.Visits.{Visits}
use Rattle.mq_core.proofs.Known.ShortRuns.{at-end}
use Rattle.mq_core.proofs.Known.WorkedRows.{EndsAt, from, net_of, node_of, rows_of}

-- a source, a fork, two nodes behind it, of which one is a server, and a join of what these let out
abbrev parts_net : Kind → Network
parts_net kind =
    record (net_of [] 100
    (node_of (codes "src") Source [] ∷ node_of (codes "f") (Fork 2) (from 0 ∷ []) ∷ node_of (codes "a") kind (from 1 ∷ []) ∷ node_of (codes "b") (Server (Fixed 1)) (record { node = 1; out = 1 } ∷ [])
    ∷ node_of (codes "j") Join (from 2 ∷ from 3 ∷ []) ∷ [])) { version = 2 }

-- it is a network of the second version alone
parts-sound : (IsTrue (is_sound (parts_net (Server (Fixed 3))))) × (is_sound (record (parts_net (Server (Fixed 3))) { version = 1 }) ≡ false)
parts-sound = (refl, refl)

abbrev two : Rows
two = rows_of (0 ∷ 0 ∷ []) (0 ∷ 1 ∷ []) []

-- Two servers: each job is put together again.
abbrev whole_visits : Visits
whole_visits = record { job = 0 ∷ 1 ∷ 0 ∷ 1 ∷ []; arrive = 1 ∷ 2 ∷ 3 ∷ 6 ∷ []; found = 0 ∷ 1 ∷ 2 ∷ 1 ∷ []; fate = Departs 3 ∷ Departs 6 ∷ Departs 3 ∷ Departs 6 ∷ [] }

abbrev came_whole : Came
came_whole = record { ports = 2; port = 1 ∷ 1 ∷ 0 ∷ 0 ∷ []; job = 0 ∷ 1 ∷ 0 ∷ 1 ∷ []; arrive = 1 ∷ 2 ∷ 3 ∷ 6 ∷ [] }

abbrev IsAssembled : State Local → Type 0
IsAssembled end =
    EndsAt end 6
    × (totals_of two Source (end.stations 0) ≡ record { came = 2; left = 2; lost = 0; held = 0; wait = 0; longest = 0; busy = 0; area = 0; peak = 0 })
    × (totals_of two (Fork 2) (end.stations 1) ≡ record { came = 2; left = 2; lost = 0; held = 0; wait = 0; longest = 0; busy = 0; area = 0; peak = 0 })
    × (totals_of two (Server (Fixed 3)) (end.stations 2) ≡ record { came = 2; left = 2; lost = 0; held = 0; wait = 2; longest = 2; busy = 6; area = 8; peak = 2 })
    × (totals_of two (Server (Fixed 1)) (end.stations 3) ≡ record { came = 2; left = 2; lost = 0; held = 0; wait = 0; longest = 0; busy = 2; area = 2; peak = 1 })
    × (totals_of two Join (end.stations 4) ≡ record { came = 4; left = 4; lost = 0; held = 0; wait = 6; longest = 4; busy = 0; area = 6; peak = 3 })
    × (exit_of two (end.stations 4) 0 ≡ (2, 8)) × (visits_of Join (end.stations 4) ≡ whole_visits) × (came_of 2 (end.stations 4).visits ≡ came_whole)
    × (stream_from (end.stations 4) 0 ≡ record { job = 0 ∷ 1 ∷ []; time = 3 ∷ 6 ∷ [] })

assembled-row : IsAssembled (run_in (parts_net (Server (Fixed 3))) two)
unfolding after step earliest sooner_of is_below order_key rank_in reader_from port_reading ranked_after first_ready
assembled-row = at-end 18 (parts_net (Server (Fixed 3))) two IsAssembled (omega arith) refl ((refl, refl), refl, refl, refl, refl, refl, refl, refl, refl, refl)

-- the same in sequences
assembled-sequences : (sequence_visits two Join came_whole ≡ whole_visits) × (sequence_stream two Join came_whole 0 ≡ record { job = 0 ∷ 1 ∷ []; time = 3 ∷ 6 ∷ [] })
    × (sequence_totals two Join whole_visits 6 ≡ record { came = 4; left = 4; lost = 0; held = 0; wait = 6; longest = 4; busy = 0; area = 6; peak = 3 })
assembled-sequences = (refl, refl, refl)

-- what left, left 8 later than its rows came
assembled-exit : 8 + sum (row_times two (0 ∷ 1 ∷ [])) ≡ sum (3 ∷ 6 ∷ [])
assembled-exit = refl

-- The match of the first job is whole at 3, when its part comes by the first port.
abbrev comes : (job arrive port found : ℕ) → Visit
comes job arrive port found = record { job = job; arrive = arrive; port = port; found = found }

abbrev parts : List Visit
parts = comes 0 1 1 0 ∷ comes 1 2 1 1 ∷ comes 0 3 0 2 ∷ comes 1 6 0 1 ∷ []

parts-came : came_of 2 parts ≡ came_whole
parts-came = refl

abbrev first_parts : (port : ℕ) → port < 2 → Item parts 0 port 0
first_parts zero inside = record { position = 2; visit = comes 0 3 0 2; here = refl; of = refl; by = refl; behind = refl }
first_parts (suc zero) inside = record { position = 0; visit = comes 0 1 1 0; here = refl; of = refl; by = refl; behind = refl }
first_parts (suc (suc port)) inside = absurd (omega arith)

first-early : (port : ℕ) (inside : port < 2) → (first_parts port inside).visit.arrive ≤ 3
first-early zero inside = omega arith
first-early (suc zero) inside = omega arith
first-early (suc (suc port)) inside = absurd (omega arith)

matched-row : IsMatchedAt 2 parts 0 0 3
matched-row = record { item = first_parts; early = first-early; last = 0; inside = omega arith; then = refl }

-- A loss station loses the second job, whose other part is held.
abbrev less_visits : Visits
less_visits = record { job = 0 ∷ 1 ∷ 0 ∷ []; arrive = 1 ∷ 2 ∷ 3 ∷ []; found = 0 ∷ 1 ∷ 2 ∷ []; fate = Departs 3 ∷ Held ∷ Departs 3 ∷ [] }

abbrev came_less : Came
came_less = record { ports = 2; port = 1 ∷ 1 ∷ 0 ∷ []; job = 0 ∷ 1 ∷ 0 ∷ []; arrive = 1 ∷ 2 ∷ 3 ∷ [] }

abbrev IsHeld : State Local → Type 0
IsHeld end =
    EndsAt end 3
    × (totals_of two Join (end.stations 4) ≡ record { came = 3; left = 2; lost = 0; held = 1; wait = 2; longest = 2; busy = 0; area = 3; peak = 3 })
    × (exit_of two (end.stations 2) 1 ≡ (1, 0)) × (exit_of two (end.stations 4) 0 ≡ (1, 3)) × (visits_of Join (end.stations 4) ≡ less_visits)
    × (came_of 2 (end.stations 4).visits ≡ came_less) × (stream_from (end.stations 4) 0 ≡ record { job = 0 ∷ []; time = 3 ∷ [] })

held-row : IsHeld (run_in (parts_net (Loss 1 (Fixed 3))) two)
unfolding after step earliest sooner_of is_below order_key rank_in reader_from port_reading ranked_after first_ready
held-row = at-end 16 (parts_net (Loss 1 (Fixed 3))) two IsHeld (omega arith) refl ((refl, refl), refl, refl, refl, refl, refl, refl)

-- the same in sequences
held-sequences : (sequence_visits two Join came_less ≡ less_visits) × (sequence_stream two Join came_less 0 ≡ record { job = 0 ∷ []; time = 3 ∷ [] })
    × (sequence_totals two Join less_visits 3 ≡ record { came = 3; left = 2; lost = 0; held = 1; wait = 2; longest = 2; busy = 0; area = 3; peak = 3 })
held-sequences = (refl, refl, refl)

-- by the first port no part of the second job ever comes
abbrev fewer_parts : List Visit
fewer_parts = comes 0 1 1 0 ∷ comes 1 2 1 1 ∷ comes 0 3 0 2 ∷ []

unmatched-row : (came_of 2 fewer_parts ≡ came_less) × IsUnmatched 2 fewer_parts 1 0
unmatched-row = (refl, record { port = 0; inside = omega arith; few = omega arith })
