-- Small networks with a trunk group, worked by hand: each row below holds by computing the event list.
use Rattle.std.proofs.Common.{List, [], arith, false, refl, ℕ, ◌∷◌, ◌≡◌}
use Rattle.std.specs.Prelude.{IsTrue, codes}
use Rattle.mq_core.specs.Came.{Came, came_by}
use Rattle.mq_core.specs.Event.{earliest, is_below, order_key, sooner_of}
use Rattle.mq_core.specs.Local.{Local}
use Rattle.mq_core.specs.Machine.{State, after, step}
use Rattle.mq_core.specs.NetworkRun.{run_in}
use Rattle.mq_core.specs.Results.{exit_of, stream_from, totals_of, visits_of}
use Rattle.mq_core.specs.Sequences.{sequence_exit, sequence_stream, sequence_totals, sequence_visits}
use Rattle.mq_core.specs.Sound.{is_sound}
use Rattle.mq_core.specs.Wiring.{first_ready, port_reading, rank_in, ranked_after, reader_from}
use Rattle.mq_core.specs.declared.model.Demand.{Demand}
use Rattle.mq_core.specs.declared.model.Demand.TheVariants.{Column, Fixed}
use Rattle.mq_core.specs.declared.model.Fate.TheVariants.{Departs, Lost}
use Rattle.mq_core.specs.declared.model.Kind.TheVariants.{Source, Trunk}
use Rattle.mq_core.specs.declared.model.Network.{Network}
use Rattle.mq_core.specs.declared.model.Rows.{Rows}
use Rattle.mq_core.specs.declared.model.Visits.{Visits}
use Rattle.mq_core.proofs.Known.ShortRuns.{at-end}
use Rattle.mq_core.proofs.Known.WorkedRows.{EndsAt, from, net_of, node_of, rows_of, seen}

-- one source, and a trunk group of as many servers with this demand
abbrev trunk_net : List (List ℕ) → ℕ → Demand → Network
trunk_net columns servers demand = record (net_of columns 100 (node_of (codes "src") Source [] ∷ node_of (codes "t") (Trunk servers demand) (from 0 ∷ []) ∷ [])) { version = 2 }

-- a trunk group has 1 to 255 servers, and is of the second version alone
servers-sound : IsTrue (is_sound (trunk_net [] 1 (Fixed 3))) × IsTrue (is_sound (trunk_net [] 255 (Fixed 3))) × (is_sound (trunk_net [] 0 (Fixed 3)) ≡ false) × (is_sound (trunk_net [] 256 (Fixed 3)) ≡ false)
    × (is_sound (record (trunk_net [] 1 (Fixed 3)) { version = 1 }) ≡ false)
servers-sound = (refl, refl, refl, refl, refl)

-- Two servers: the third job finds both busy, and the fourth comes as the first leaves.
abbrev five : Rows
five = rows_of (0 ∷ 0 ∷ 0 ∷ 0 ∷ 0 ∷ []) (0 ∷ 1 ∷ 2 ∷ 3 ∷ 4 ∷ []) []

abbrev came_five : Came
came_five = came_by (0 ∷ 1 ∷ 2 ∷ 3 ∷ 4 ∷ []) (0 ∷ 1 ∷ 2 ∷ 3 ∷ 4 ∷ [])

abbrev pair_visits : Visits
pair_visits =
    record { job = 0 ∷ 1 ∷ 2 ∷ 3 ∷ 4 ∷ []; arrive = 0 ∷ 1 ∷ 2 ∷ 3 ∷ 4 ∷ []; found = 0 ∷ 1 ∷ 2 ∷ 1 ∷ 1 ∷ []; fate = Departs 3 ∷ Departs 4 ∷ Lost ∷ Departs 6 ∷ Departs 7 ∷ [] }

abbrev IsPair : State Local → Type 0
IsPair end =
    EndsAt end 7
    × (seen end 1 ≡ record { left = (2, 1, 2) ∷ (0, 0, 3) ∷ (1, 0, 4) ∷ (3, 0, 6) ∷ (4, 0, 7) ∷ []; found = 0 ∷ 1 ∷ 2 ∷ 1 ∷ 1 ∷ []; area = 12; busy = 12 })
    × (totals_of five (Trunk 2 (Fixed 3)) (end.stations 1) ≡ record { came = 5; left = 4; lost = 1; held = 0; wait = 0; longest = 0; busy = 12; area = 12; peak = 2 })
    × (exit_of five (end.stations 1) 0 ≡ (4, 12)) × (exit_of five (end.stations 1) 1 ≡ (1, 0))
    × (visits_of (Trunk 2 (Fixed 3)) (end.stations 1) ≡ pair_visits)
    × (stream_from (end.stations 1) 0 ≡ record { job = 0 ∷ 1 ∷ 3 ∷ 4 ∷ []; time = 3 ∷ 4 ∷ 6 ∷ 7 ∷ [] })
    × (stream_from (end.stations 1) 1 ≡ record { job = 2 ∷ []; time = 2 ∷ [] })

pair-row : IsTrue (is_sound (trunk_net [] 2 (Fixed 3))) × IsPair (run_in (trunk_net [] 2 (Fixed 3)) five)
unfolding after step earliest sooner_of is_below order_key rank_in reader_from port_reading ranked_after first_ready
pair-row = (refl, at-end 14 (trunk_net [] 2 (Fixed 3)) five IsPair (omega arith) refl ((refl, refl), refl, refl, refl, refl, refl, refl, refl))

-- the same in sequences
sequences-pair : (sequence_visits five (Trunk 2 (Fixed 3)) came_five ≡ pair_visits)
    × (sequence_stream five (Trunk 2 (Fixed 3)) came_five 0 ≡ record { job = 0 ∷ 1 ∷ 3 ∷ 4 ∷ []; time = 3 ∷ 4 ∷ 6 ∷ 7 ∷ [] })
    × (sequence_stream five (Trunk 2 (Fixed 3)) came_five 1 ≡ record { job = 2 ∷ []; time = 2 ∷ [] })
    × (sequence_totals five (Trunk 2 (Fixed 3)) pair_visits 7 ≡ record { came = 5; left = 4; lost = 1; held = 0; wait = 0; longest = 0; busy = 12; area = 12; peak = 2 })
    × (sequence_exit five (record { job = 0 ∷ 1 ∷ 3 ∷ 4 ∷ []; time = 3 ∷ 4 ∷ 6 ∷ 7 ∷ [] }) ≡ (4, 12)) × (sequence_exit five (record { job = 2 ∷ []; time = 2 ∷ [] }) ≡ (1, 0))
sequences-pair = (refl, refl, refl, refl, refl, refl)

-- A job overtakes another.
abbrev overtaking : Rows
overtaking = rows_of (0 ∷ 0 ∷ []) (0 ∷ 1 ∷ []) ((5 ∷ 1 ∷ []) ∷ [])

abbrev IsOvertaking : State Local → Type 0
IsOvertaking end =
    EndsAt end 5
    × (seen end 1 ≡ record { left = (1, 0, 2) ∷ (0, 0, 5) ∷ []; found = 0 ∷ 1 ∷ []; area = 6; busy = 6 })
    × (totals_of overtaking (Trunk 2 (Column 0)) (end.stations 1) ≡ record { came = 2; left = 2; lost = 0; held = 0; wait = 0; longest = 0; busy = 6; area = 6; peak = 2 })
    × (stream_from (end.stations 1) 0 ≡ record { job = 1 ∷ 0 ∷ []; time = 2 ∷ 5 ∷ [] })

overtaking-row : IsTrue (is_sound (trunk_net (codes "d" ∷ []) 2 (Column 0))) × IsOvertaking (run_in (trunk_net (codes "d" ∷ []) 2 (Column 0)) overtaking)
    × (sequence_stream overtaking (Trunk 2 (Column 0)) (came_by (0 ∷ 1 ∷ []) (0 ∷ 1 ∷ [])) 0 ≡ record { job = 1 ∷ 0 ∷ []; time = 2 ∷ 5 ∷ [] })
unfolding after step earliest sooner_of is_below order_key rank_in reader_from port_reading ranked_after first_ready
overtaking-row = (refl, at-end 6 (trunk_net (codes "d" ∷ []) 2 (Column 0)) overtaking IsOvertaking (omega arith) refl ((refl, refl), refl, refl, refl), refl)

-- Who asks for no service leaves as it came, and the next of that time finds its server free.
abbrev together : Rows
together = rows_of (0 ∷ 0 ∷ 0 ∷ []) (0 ∷ 0 ∷ 0 ∷ []) ((0 ∷ 2 ∷ 0 ∷ []) ∷ [])

abbrev IsTogether : State Local → Type 0
IsTogether end =
    EndsAt end 2
    × (seen end 1 ≡ record { left = (0, 0, 0) ∷ (2, 1, 0) ∷ (1, 0, 2) ∷ []; found = 0 ∷ 0 ∷ 1 ∷ []; area = 2; busy = 2 })
    × (visits_of (Trunk 1 (Column 0)) (end.stations 1) ≡ record { job = 0 ∷ 1 ∷ 2 ∷ []; arrive = 0 ∷ 0 ∷ 0 ∷ []; found = 0 ∷ 0 ∷ 1 ∷ []; fate = Departs 0 ∷ Departs 2 ∷ Lost ∷ [] })

together-row : IsTogether (run_in (trunk_net (codes "d" ∷ []) 1 (Column 0)) together)
    × (sequence_visits together (Trunk 1 (Column 0)) (came_by (0 ∷ 1 ∷ 2 ∷ []) (0 ∷ 0 ∷ 0 ∷ [])) ≡ record { job = 0 ∷ 1 ∷ 2 ∷ []; arrive = 0 ∷ 0 ∷ 0 ∷ []; found = 0 ∷ 0 ∷ 1 ∷ []; fate = Departs 0 ∷ Departs 2 ∷ Lost ∷ [] })
unfolding after step earliest sooner_of is_below order_key rank_in reader_from port_reading ranked_after first_ready
together-row = (at-end 8 (trunk_net (codes "d" ∷ []) 1 (Column 0)) together IsTogether (omega arith) refl ((refl, refl), refl, refl), refl)
